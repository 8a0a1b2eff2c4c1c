-- The readings of a list of bytes, and the tickets that it says: where no ticket is refused they are the same.
-- Assumes nothing.
use Prim.Native.Nat.{ℕ, zero, suc, ◌-◌, ◌≤◌, ◌<◌}
use native.Mathlib.Nat.{le_refl}
use native.Mathlib.Decide.{dec_lt, ℕ_discrete}
use native.Mathlib.Omega.{arith}
use mathlib.Core.Path.{◌≡◌, refl, ap, ap₂, sym, ◌∙◌}
use mathlib.Core.Bool.{Bool}
use mathlib.Core.Logic.{by_cases}
use mathlib.Core.List.{List}
use lib.ListN.{length}
use lib.Dec.{ltb}
use borrow.Author.Tests.{lt-ltb, le-ltb}
use Rattle.rules.specs.Loops.{◌and◌, every}
use Rattle.rules.specs.Refusals.{◌or_else◌, first}
use Rattle.rules.proofs.Loops.Logic.{and_true}
use Rattle.rules.proofs.Loops.Every.{every_cong}
use Rattle.rules.proofs.Loops.Refusals.{first_at, first_cong, or_else_none, when_accepted, when_refused}
use Rattle.rules.proofs.Loops.Pieces.{length_list, getD_list}
use Rattle.ticket.specs.declared.Ticket.{Ticket}
use Rattle.ticket.specs.Tickets.{Reading, number_limit, no_ticket, ticket_of, read_answer, handed_back, reading}
use Rattle.ticket.proofs.RoundTrip.{number_within}
use Rattle.reconcile.specs.Counts.{ticket_at, number_at, numbers_rise}
use Rattle.reconcile.specs.Lists.{tickets_in, ticket_part, tickets_of, tickets_answer}
use Rattle.reconcile.specs.Laws.{RisingList}
use Rattle.reconcile.specs.Inner.{end_ticket, read_at, next_number, Sound}
use Rattle.reconcile.proofs.Rising.{next_inside, next_end}

module _ (b : List ℕ) where
  pub tickets_length : length (tickets_of b) ≡ tickets_in b
  unfolding tickets_of
  tickets_length = length_list (tickets_in b) _

  ticket_is : (k : ℕ) → k < tickets_in b → ticket_at (tickets_of b) k ≡ ticket_of (ticket_part b k)
  unfolding tickets_of
  ticket_is k inside = getD_list (tickets_in b) _ no_ticket k inside

  pub read_inside : (k : ℕ) → k < tickets_in b → read_at b k ≡ reading (ticket_part b k)
  unfolding read_at
  read_inside k inside = rw (lt-ltb k (tickets_in b) inside) refl

  pub read_end : (k : ℕ) → tickets_in b ≤ k → read_at b k ≡ handed_back 0 end_ticket
  unfolding read_at
  read_end k past = rw (le-ltb k (tickets_in b) past) refl

  -- a ticket that is read has a number that tickets have, and one that is refused has 0
  pub read_below : (k : ℕ) → k < tickets_in b → (read_at b k).ticket.number ≤ number_limit
  unfolding reading
  read_below k inside =
      rw (read_inside k inside) (by_cases (ℕ_discrete (read_answer (ticket_part b k)) 0)
      (λ e. rw (when_accepted _ (ticket_of (ticket_part b k)) no_ticket e) (number_within (ticket_part b k) e))
      (λ d. rw (when_refused _ (ticket_of (ticket_part b k)) no_ticket d) (omega arith)))

  -- behind the last ticket the cursor has every ticket's refusal
  pub all_asked : first (suc (tickets_in b)) (λ k. (read_at b k).answer) ≡ tickets_answer b
  unfolding tickets_answer first reading
  all_asked =
      ap₂ ◌or_else◌ (first_cong (tickets_in b) (λ k inside. ap (λ (r : Reading). r.answer) (read_inside k inside))) (ap (λ (r : Reading). r.answer) (read_end _ (le_refl _)))
      ∙ or_else_none _

module _ (b : List ℕ) (accepted : tickets_answer b ≡ 0) where
  one_accepted : (k : ℕ) → k < tickets_in b → read_answer (ticket_part b k) ≡ 0
  unfolding tickets_answer
  one_accepted = first_at (tickets_in b) _ accepted

  pub ticket_read : (k : ℕ) → k < tickets_in b → (read_at b k).ticket ≡ ticket_at (tickets_of b) k
  unfolding reading
  ticket_read k inside = ap (λ (r : Reading). r.ticket) (read_inside b k inside) ∙ when_accepted _ _ _ (one_accepted k inside) ∙ sym (ticket_is b k inside)

  pub number_read : (k : ℕ) → (read_at b k).ticket.number ≡ next_number (tickets_of b) k
  number_read k =
      let len = tickets_length b in
      by_cases (dec_lt k (tickets_in b))
      (λ inside. ap (λ (t : Ticket). t.number) (ticket_read k inside) ∙ sym (next_inside (tickets_of b) k (omega (arith, len))))
      (λ past. ap (λ (r : Reading). r.ticket.number) (read_end b k (omega arith)) ∙ sym (next_end (tickets_of b) k (omega (arith, len))))

  numbers_within : (k : ℕ) → k < length (tickets_of b) → number_at (tickets_of b) k ≤ number_limit
  numbers_within k inside =
      let here : k < tickets_in b = omega (arith, tickets_length b) in
      omega (arith, ap (λ (t : Ticket). t.number) (ticket_is b k here), number_within (ticket_part b k) (one_accepted k here))

-- to the end every number rises, so that asking it too tells nothing
rise_to_end : (l : List Ticket) → ((k : ℕ) → k < length l → number_at l k ≤ number_limit)
    → (n : ℕ) → length l ≡ n → every n (λ k. ltb (next_number l k) (next_number l (suc k))) ≡ numbers_rise l
unfolding numbers_rise every
rise_to_end l within zero len = let less : length l - 1 ≡ 0 = omega (arith, len) in rw less refl
rise_to_end l within (suc n) len =
    let less : length l - 1 ≡ n = omega (arith, len) in
    let last = lt-ltb (next_number l n) (next_number l (suc n)) (omega (arith, next_inside l n (omega (arith, len)), next_end l (suc n) (omega (arith, len)), within n (omega (arith, len)))) in
    ap (λ (b : Bool). every n (λ k. ltb (next_number l k) (next_number l (suc k))) and b) last
    ∙ and_true _
    ∙ every_cong n (λ k b. ap₂ ltb (next_inside l k (omega (arith, len))) (next_inside l (suc k) (omega (arith, len))))
    ∙ sym (ap (λ (m : ℕ). every m (λ k. ltb (number_at l k) (number_at l (suc k)))) less)

pub all_rise : (b : List ℕ) → tickets_answer b ≡ 0
    → every (tickets_in b) (λ k. ltb (read_at b k).ticket.number (read_at b (suc k)).ticket.number) ≡ numbers_rise (tickets_of b)
all_rise b accepted =
    every_cong (tickets_in b) (λ k _. ap₂ ltb (number_read b accepted k) (number_read b accepted (suc k)))
    ∙ rise_to_end (tickets_of b) (numbers_within b accepted) (tickets_in b) (tickets_length b)

pub sound_listed : (b : List ℕ) → Sound b → RisingList (tickets_of b)
sound_listed b sound = record { rises = sound.rises; in_range = numbers_within b sound.tickets_right }
