-- The laws of the four counts, for any two lists of tickets: each list's tickets are counted once, exchanging the lists exchanges the last two counts, and a
-- list against itself is all alike.
-- Assumes nothing.
use Prim.Native.Nat.{ℕ, suc, ◌+◌, ◌<◌, suc-le-suc}
use native.Mathlib.Omega.{arith}
use mathlib.Core.Path.{◌≡◌, refl, ap, ap₂, sym, ◌∙◌}
use mathlib.Core.Bool.{Bool, true, false, not}
use mathlib.Core.List.{List}
use lib.ListN.{length}
use borrow.Author.Tests.{eqb-true, eq-eqb}
use Rattle.rules.specs.Loops.{◌and◌, one_if, count}
use Rattle.rules.proofs.Loops.Logic.{same, and_left, and_right, and_both, and_swap}
use Rattle.rules.proofs.Loops.Every.{some_at, some_where}
use Rattle.rules.proofs.Loops.Counts.{count_cong, count_all, count_none, count_apart, count_along}
use Rattle.ticket.specs.declared.Ticket.{Ticket}
use Rattle.ticket.specs.Tickets.{number_limit}
use Rattle.reconcile.specs.Counts.{numbers_with, ticket_at, number_at, has, shares, alike_in_both, differing_in_both, only_in_first}
use Rattle.reconcile.specs.Lists.{Reconciliation, reconciled, counted}
use Rattle.reconcile.specs.Laws.{RisingList, FirstAddsUp, SecondAddsUp, AgainstItself, ListsExchanged}
use Rattle.reconcile.proofs.SameTicket.{same_number, equal_tickets, same_exchanged}
use Rattle.reconcile.proofs.Rising.{present, above, shared}

-- the numbers of a rising list that have a property: as many as there are tickets whose number has it
along : {l : List Ticket} → RisingList l → (t : ℕ → Bool) → numbers_with (λ x. has l x and t x) ≡ count (length l) (λ k. t (number_at l k))
unfolding has
along {l} listed t = count_along (suc number_limit) (number_at l) t (length l) (λ k inside. suc-le-suc (listed.in_range k inside)) (above listed)

module _ {l : List Ticket} (listed : RisingList l) (m : List Ticket) where
  pub alike_along : alike_in_both l m ≡ count (length l) (λ k. has m (number_at l k) and shares l m (number_at l k))
  unfolding alike_in_both
  alike_along = along listed _

  pub differing_along : differing_in_both l m ≡ count (length l) (λ k. has m (number_at l k) and not (shares l m (number_at l k)))
  unfolding differing_in_both
  differing_along = along listed _

  pub only_along : only_in_first l m ≡ count (length l) (λ k. not (has m (number_at l k)))
  unfolding only_in_first
  only_along = along listed _

-- alike, differing and only there: each ticket of a list is one of the three
pub first_adds_up : FirstAddsUp
unfolding ◌and◌
first_adds_up l m listed =
    let n = length l in
    let both : ℕ → Bool = λ k. has m (number_at l k) in
    let same : ℕ → Bool = λ k. shares l m (number_at l k) in
    ap₂ ◌+◌ (ap₂ ◌+◌ (alike_along listed m) (differing_along listed m)) (only_along listed m)
    ∙ ap (λ (c : ℕ). c + count n (λ k. not (both k))) (sym (count_apart n both _ _ (λ k. halves (both k) (same k))))
    ∙ sym (count_apart n (λ k. true) both _ (λ k. whole (both k)))
    ∙ count_all n
  where
    halves : (a b : Bool) → one_if a ≡ one_if (a and b) + one_if (a and not b)
    halves true true = refl
    halves true false = refl
    halves false b = refl

    whole : (a : Bool) → 1 ≡ one_if a + one_if (not a)
    whole true = refl
    whole false = refl

-- a ticket that the first list shares with the second, the second shares with the first
shares_back : (l m : List Ticket) (x : ℕ) → shares l m x ≡ true → shares m l x ≡ true
unfolding shares
shares_back l m x s =
    let (j, j-in, s') = some_where (length l) _ s in
    let (k, k-in, both) = some_where (length m) _ s' in
    let number = eqb-true _ _ (and_left _ _ both) in
    let alike = and_right _ _ both in
    some_at (length m) _ k k-in
    (some_at (length l) _ j j-in
    (and_both (eq-eqb (number_at m k) x (sym (same_number _ _ alike) ∙ number)) (same_exchanged _ _ ∙ alike)))

-- with the lists exchanged the last two counts change places
pub lists_exchanged : ListsExchanged
unfolding counted alike_in_both differing_in_both
lists_exchanged l m =
    let shared_both : (x : ℕ) → shares m l x ≡ shares l m x = λ x. same _ _ (shares_back m l x) (shares_back l m x) in
    ap₂ (λ (a d : ℕ). reconciled 0 a d (only_in_first m l) (only_in_first l m))
    (count_cong (suc number_limit) (λ x _. and_swap (has m x) (has l x) _ ∙ ap (λ (s : Bool). has l x and has m x and s) (shared_both x)))
    (count_cong (suc number_limit) (λ x _. and_swap (has m x) (has l x) _ ∙ ap (λ (s : Bool). has l x and has m x and not s) (shared_both x)))

-- so each ticket of the second list is alike, differing or only there
pub second_adds_up : SecondAddsUp
unfolding counted
second_adds_up l m listed =
    let swapped = lists_exchanged m l in
    ap₂ (λ (a d : ℕ). a + d + only_in_first m l) (ap (λ (r : Reconciliation). r.alike) swapped) (ap (λ (r : Reconciliation). r.differing) swapped) ∙ first_adds_up m l listed

-- a list against itself is all alike
pub against_itself : AgainstItself
unfolding counted ◌and◌
against_itself l listed =
    let shared_all : (k : ℕ) → k < length l → shares l l (number_at l k) ≡ true = λ k inside. shared listed listed k k inside inside refl ∙ equal_tickets (ticket_at l k) _ refl in
    let alone : only_in_first l l ≡ 0 = only_along listed l ∙ count_cong (length l) (λ k inside. ap not (present l k inside)) ∙ count_none (length l) in
    let no_other : differing_in_both l l ≡ 0 =
    differing_along listed l ∙ count_cong (length l) (λ k inside. ap₂ (λ (a b : Bool). a and not b) (present l k inside) (shared_all k inside)) ∙ count_none (length l) in
    rw (alone, no_other) (ap (λ (a : ℕ). reconciled 0 a 0 0 0) (omega (arith, first_adds_up l l listed, alone, no_other)))
