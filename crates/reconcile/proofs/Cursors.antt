-- A cursor at a place of a list: its head, and one place further.
-- Assumes nothing.
use Prim.Native.Nat.{ℕ, suc, ◌+◌, ◌*◌, ◌/◌, ◌%◌, ◌≤◌, ◌<◌}
use native.Mathlib.Decide.{dec_lt}
use native.Mathlib.Numerals.{add-one}
use native.Mathlib.Omega.{arith}
use mathlib.Core.Path.{◌≡◌, refl, ap, ap₂, sym, ◌∙◌}
use mathlib.Core.Bool.{Bool, true}
use mathlib.Core.Logic.{by_cases}
use mathlib.Core.List.{List}
use lib.ListN.{length}
use lib.Dec.{ltb}
use Rattle.rules.specs.Loops.{◌and◌, every}
use Rattle.rules.specs.Refusals.{◌or_else◌, first}
use Rattle.std.specs.Prelude.{Result, Ok, Err}
use Rattle.std.specs.Result.{result_and, result_unwrap_or}
use Rattle.refusal.specs.declared.Refusal.{Refusal}
use Rattle.refusal.specs.Answers.{answered}
use Rattle.refusal.proofs.Refused.{number_is_not_0}
use Rattle.rules.proofs.Loops.Refusals.{or_else_stands}
use Rattle.ticket.specs.declared.Ticket.{Ticket}
use Rattle.ticket.specs.Tickets.{Reading, as_reading, no_ticket, ticket_length, number_limit}
use Rattle.reconcile.specs.declared.cursor.Cursor.{Cursor}
use Rattle.reconcile.specs.Lists.{tickets_in}
use Rattle.reconcile.specs.Inner.{Place, read_at, as_place, place_at, Standing}
use Rattle.reconcile.proofs.Readings.{read_below, read_end}

abbrev as_at : List ℕ → ℕ → ℕ → Bool → Ticket → Place
as_at list at answer rises head = record { list = list; at = at; answer = answer; rises = rises; head = head }

-- what is read at a place, as the code has it: its refusal, and the ticket that stands there
abbrev accepted : Result Unit Refusal
accepted = Ok tt

reading_told : (r : Result Ticket Refusal) → answered (result_and r accepted) ≡ (as_reading r).answer
reading_told (Ok t) = refl
reading_told (Err refusal) = refl

reading_stands : (r : Result Ticket Refusal) → result_unwrap_or r no_ticket ≡ (as_reading r).ticket
reading_stands (Ok t) = refl
reading_stands (Err refusal) = refl

first_told : (a : Result Unit Refusal) (r : Result Ticket Refusal) → answered (result_and (result_and a r) accepted) ≡ answered a or_else (as_reading r).answer
unfolding ◌or_else◌
first_told (Ok x) r = reading_told r
first_told (Err refusal) r = sym (or_else_stands _ _ (number_is_not_0 refusal))

-- the first ticket has none before it
pub started : (b : List ℕ) (r : Result Ticket Refusal) → as_reading r ≡ read_at b 0
    → as_at b 0 (answered (result_and r accepted)) true (result_unwrap_or r no_ticket) ≡ place_at b 0
unfolding place_at first ◌or_else◌ every
started b r e = ap₂ (λ (x : ℕ) (t : Ticket). as_at b 0 x true t) (reading_told r) (reading_stands r) ∙ ap (λ (r : Reading). as_at b 0 r.answer true r.ticket) e

module _ {b : List ℕ} {c : Cursor} (s : Standing b c) where
  at_ticket : c.at / ticket_length * ticket_length ≡ c.at
  unfolding place_at
  at_ticket = sym (ap (λ (p : Place). p.at) s.is_at)

  pub list_is : c.list.now ≡ b
  unfolding place_at
  list_is = ap (λ (p : Place). p.list) s.is_at

  pub next_position : ((c.at + ticket_length) % ticket_length ≡ 0) × (length b % ticket_length ≡ 0)
  next_position = (omega (arith, at_ticket), s.whole)

  pub advanced : (r : Result Ticket Refusal) {rises : Bool} → as_reading r ≡ read_at b ((c.at + ticket_length) / ticket_length)
      → rises ≡ c.rises and ltb c.head.number (result_unwrap_or r no_ticket).number
      → as_at b (c.at + ticket_length) (answered (result_and (result_and c.answer r) accepted)) rises (result_unwrap_or r no_ticket)
      ≡ place_at b (c.at / ticket_length + 1)
  unfolding place_at first every
  advanced r {rises} read_is rises-is =
      let k = c.at / ticket_length in
      let next : (c.at + ticket_length) / ticket_length ≡ suc k = omega (arith, at_ticket) in
      let r_is : as_reading r ≡ read_at b (suc k) = read_is ∙ ap (read_at b) next in
      let here = s.is_at in
      let position : c.at + ticket_length ≡ suc k * ticket_length = omega (arith, at_ticket) in
      let head = reading_stands r ∙ ap (λ (r : Reading). r.ticket) r_is in
      let answers = first_told c.answer r ∙ ap₂ (λ (p : Place) (r : Reading). p.answer or_else r.answer) here r_is in
      let rising = rises-is ∙ ap₂ (λ (p : Place) (t : Ticket). p.rises and ltb p.head.number t.number) here head in
      rw (add-one k) (λ i. as_at b (position i) (answers i) (rising i) (head i))

  -- the head: a ticket with a number that tickets have, or behind them the end
  pub head_is : c.head ≡ (read_at b (c.at / ticket_length)).ticket
  unfolding place_at
  head_is = ap (λ (p : Place). p.head) s.is_at

  pub inside : c.at < length b → c.at / ticket_length < tickets_in b
  inside less = omega (arith, at_ticket, s.whole)

  pub head_below : c.at < length b → c.head.number ≤ number_limit
  head_below less = rw head_is (read_below b _ (inside less))

  pub head_end : length b ≤ c.at → c.head.number ≡ suc number_limit
  head_end past = ap (λ (t : Ticket). t.number) head_is ∙ ap (λ (r : Reading). r.ticket.number) (read_end b _ (omega (arith, at_ticket, s.whole)))

  pub head_most : c.head.number ≤ suc number_limit
  head_most = by_cases (dec_lt c.at (length b)) (λ less. omega (arith, head_below less)) (λ past. omega (arith, head_end (omega arith)))

  -- a head below another is no end
  pub at_a_ticket : {x : ℕ} → c.head.number < x → x ≤ suc number_limit → c.at < length b
  at_a_ticket less most = by_cases (dec_lt c.at (length b)) (λ l. l) (λ past. absurd (omega (arith, head_end (omega arith))))

  -- one place further
  pub moved : {c' : Cursor} → c.at < length b → as_place c' ≡ place_at b (c.at / ticket_length + 1)
      → (c'.at / ticket_length ≡ c.at / ticket_length + 1) × (c'.at ≡ c.at + ticket_length) × Standing b c'
  unfolding place_at
  moved {c'} less e =
      let position : c'.at ≡ (c.at / ticket_length + 1) * ticket_length = ap (λ (p : Place). p.at) e in
      let place : c'.at / ticket_length ≡ c.at / ticket_length + 1 = omega arith in (
        place,
        omega (arith, at_ticket),
        record { whole = s.whole; short = s.short; within = omega (arith, at_ticket, s.whole); is_at = e ∙ ap (place_at b) (sym place) },
      )
