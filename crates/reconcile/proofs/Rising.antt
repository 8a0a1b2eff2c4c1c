-- Lists of tickets whose numbers rise: where a number is in one, and where it is not.
-- Assumes nothing.
use Prim.Native.Nat.{ℕ, suc, ◌-◌, ◌≤◌, ◌<◌}
use native.Mathlib.Nat.{eq-or-lt_of_le}
use native.Mathlib.Decide.{dec_lt, ℕ_discrete}
use native.Mathlib.Omega.{arith}
use mathlib.Core.Path.{◌≡◌, refl, ap, ap₂, sym, ◌∙◌}
use mathlib.Core.Bool.{true, false}
use mathlib.Core.Logic.{⊎_elim, by_cases}
use mathlib.Core.List.{List}
use lib.ListN.{length}
use borrow.Author.Tests.{ltb-true, lt-ltb, le-ltb, eqb-true, eq-eqb, ne_eqb}
use Rattle.rules.proofs.Loops.Logic.{same, and_left, and_right, and_both}
use Rattle.rules.proofs.Loops.Every.{every_at, some_at, some_where, some_none}
use Rattle.rules.proofs.Loops.Ranges.{below_or_above}
use Rattle.rules.proofs.Loops.Counts.{each_above}
use Rattle.ticket.specs.declared.Ticket.{Ticket}
use Rattle.ticket.specs.Tickets.{number_limit}
use Rattle.reconcile.specs.Counts.{ticket_at, number_at, same_ticket, has, shares, numbers_rise}
use Rattle.reconcile.specs.Laws.{RisingList}
use Rattle.reconcile.specs.Inner.{next_number}
use Rattle.reconcile.proofs.SameTicket.{same_number}

-- each number of a list is in it
pub present : (l : List Ticket) (k : ℕ) → k < length l → has l (number_at l k) ≡ true
unfolding has
present l k inside = some_at (length l) _ k inside (eq-eqb (number_at l k) _ refl)

-- what comes next: the ticket at that place, or the end
module _ (l : List Ticket) (k : ℕ) where
  pub next_inside : k < length l → next_number l k ≡ number_at l k
  next_inside inside = rw (lt-ltb k (length l) inside) refl

  pub next_end : length l ≤ k → next_number l k ≡ suc number_limit
  next_end past = rw (le-ltb k (length l) past) refl

  pub below_end : next_number l k < suc number_limit → k < length l
  below_end less = by_cases (dec_lt k (length l)) (λ inside. inside) (λ past. absurd (omega (arith, next_end (omega arith))))

module _ {l : List Ticket} (listed : RisingList l) where
  pub above : (j k : ℕ) → j < k → k < length l → number_at l j < number_at l k
  unfolding numbers_rise
  above = each_above (length l) (number_at l) (λ k inside. ltb-true _ _ (every_at (length l - 1) _ listed.rises k (omega arith)))

  pub at_most_end : (k : ℕ) → next_number l k ≤ suc number_limit
  at_most_end k =
      by_cases (dec_lt k (length l)) (λ inside. omega (arith, next_inside l k inside, listed.in_range k inside)) (λ past. omega (arith, next_end l k (omega arith)))

  pub next_above : (j k : ℕ) → j < k → j < length l → number_at l j < next_number l k
  next_above j k less inside =
      by_cases (dec_lt k (length l)) (λ also. omega (arith, next_inside l k also, above j k less also))
      (λ past. omega (arith, next_end l k (omega arith), listed.in_range j inside))

  one_place : (j k : ℕ) → j < length l → k < length l → number_at l j ≡ number_at l k → j ≡ k
  one_place j k j-in k-in e =
      by_cases (ℕ_discrete j k) (λ q. q)
      (λ d. absurd (⊎_elim (λ less. omega (arith, above j k less k-in)) (λ less. omega (arith, above k j less j-in)) (below_or_above j k d)))

  -- no number of a later place is below the next one
  from_next : (k i : ℕ) → k ≤ i → i < length l → next_number l k ≤ number_at l i
  from_next k i past inside =
      let next = next_inside l k (omega arith) in
      ⊎_elim (λ e. omega (arith, next, ap (number_at l) e)) (λ less. omega (arith, next, above k i less inside)) (eq-or-lt_of_le past)

  -- a number between two neighbours is not in the list
  pub absent : (k x : ℕ) → ((i : ℕ) → i < k → number_at l i < x) → x < next_number l k → has l x ≡ false
  unfolding has
  absent k x before after =
      some_none (length l) _ (λ i inside. ne_eqb (number_at l i) x (λ e.
      by_cases (dec_lt i k) (λ less. omega (arith, before i less)) (λ past. omega (arith, from_next k i (omega arith) inside))))

-- of a number that two lists have they share the ticket where their two tickets are the same
module _ {l m : List Ticket} (listed : RisingList l) (listed' : RisingList m) where
  pub shared : (j k : ℕ) → j < length l → k < length m → number_at l j ≡ number_at m k → shares l m (number_at l j) ≡ same_ticket (ticket_at l j) (ticket_at m k)
  unfolding shares
  shared j k j-in k-in e =
      same _ _
      (λ s.
      let (j', j'-in, s') = some_where (length l) _ s in
      let (k', k'-in, both) = some_where (length m) _ s' in
      let j_is : j' ≡ j = one_place listed j' j j'-in j-in (eqb-true _ _ (and_left _ _ both)) in
      let alike = and_right _ _ both in
      let k_is : k' ≡ k = one_place listed' k' k k'-in k-in (sym (same_number _ _ alike) ∙ eqb-true _ _ (and_left _ _ both) ∙ e) in
      sym (ap₂ (λ (a b : ℕ). same_ticket (ticket_at l a) (ticket_at m b)) j_is k_is) ∙ alike)
      (λ alike. some_at (length l) _ j j-in (some_at (length m) _ k k-in (and_both (eq-eqb (number_at l j) _ refl) alike)))
