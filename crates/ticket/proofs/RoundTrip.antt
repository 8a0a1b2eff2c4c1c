-- A ticket that was read and is written again is the same bytes, and a ticket that was written is read unaltered. Of a number that is read only the
-- digits can be wrong.
-- Assumes nothing.
use Prim.Native.Nat.{ℕ, suc, ◌≤◌}
use native.Mathlib.Omega.{arith}
use native.Mathlib.Nat.{le_of_eq}
use mathlib.Core.Path.{◌≡◌, refl, ap, ap₂, sym, ◌∙◌}
use mathlib.Core.Bool.{Bool, true, not}
use mathlib.Core.Logic.{⊎_elim}
use mathlib.Core.List.{List, [], ◌∷◌, ◌++◌}
use lib.ListN.{length, get_or, take}
use lib.Seq.{sets, take_all, drop-cons}
use borrow.Author.Tests.{eqb-true, eq-eqb, ltb-false, le-ltb, le-leb}
use Rattle.rules.specs.Loops.{between, every}
use Rattle.rules.specs.Numbers.{part}
use Rattle.rules.specs.Pile.{amount_limit}
use Rattle.rules.specs.Refusals.{◌when◌, ◌or_else◌}
use Rattle.rules.proofs.Loops.Logic.{decided, and_both, in_range}
use Rattle.rules.proofs.Loops.Refusals.{when_done, when_not_done, or_else_first, or_else_rest, none_met, not_met, when_accepted}
use Rattle.rules.proofs.Loops.Pieces.{part_add}
use Rattle.rules.proofs.Loops.Sets.{part_sets}
use Rattle.ticket.specs.declared.Ticket.{Ticket}
use Rattle.ticket.specs.Packed.{packed_number, packed_bytes, digits_right}
use Rattle.ticket.specs.Tickets.{ticket_length, number_limit, ticket_bytes, ticket_of, field_answer, fields_answer, read_answer, write_answer, handed_back, reading, after_write}
use Rattle.ticket.specs.Laws.{ReadAndWritten, WrittenAndRead, NumberInRange}
use Rattle.ticket.proofs.Digits.{number_packed, right_packed, packed_below, packed_number_lem}

-- what an accepted field says: its digits are right, and its value is in range
field_accepted : (refusal low high : ℕ) (right : Bool) (x : ℕ) → field_answer (suc refusal) low high right x ≡ 0 → (right ≡ true) × (x ≤ high)
unfolding field_answer
field_accepted refusal low high right x e =
    (when_not_done 32 right (or_else_first _ _ e), (in_range low high x (when_not_done refusal _ (or_else_rest _ _ e))).1)

record FieldsRight (d₁ d₂ d₃ : Bool) (t : Ticket) : Type 0 where
  of_number : (d₁ ≡ true) × (t.number ≤ number_limit)
  of_pile : (d₂ ≡ true) × (t.pile ≤ 65535)
  of_tonnes : (d₃ ≡ true) × (t.tonnes ≤ amount_limit)

fields_accepted : (d₁ d₂ d₃ : Bool) (t : Ticket) → fields_answer d₁ d₂ d₃ t ≡ 0 → FieldsRight d₁ d₂ d₃ t
unfolding fields_answer
fields_accepted d₁ d₂ d₃ t e =
    let after-number = or_else_rest _ _ e in
    record {
      of_number = field_accepted _ _ _ _ _ (or_else_first _ _ e);
      of_pile = field_accepted _ _ _ _ _ (or_else_first _ _ after-number);
      of_tonnes = field_accepted _ _ _ _ _ (or_else_first _ _ (or_else_rest _ _ after-number));
    }

-- what is read again: the bytes of the ticket that they say
module _ (b : List ℕ) (e : read_answer b ≡ 0) where
  pub eleven : length b ≡ ticket_length
  unfolding read_answer
  eleven = eqb-true _ _ (when_not_done 2 _ (or_else_first _ _ e))

  fields : fields_answer (digits_right 4 b 0) (digits_right 3 b 4) (digits_right 2 b 7) (ticket_of b) ≡ 0
  unfolding read_answer
  fields = or_else_rest _ _ e

  last_two : part 9 2 b ≡ get_or b 9 0 ∷ get_or b 10 0 ∷ []
  last_two = ap (take 2) (drop-cons b 9 0 (omega (arith, eleven)) ∙ ap (λ (r : List ℕ). get_or b 9 0 ∷ r) (drop-cons b 10 0 (omega (arith, eleven))))

  pieces : part 0 4 b ++ part 4 3 b ++ part 7 2 b ++ part 9 2 b ≡ b
  pieces =
      sym (part_add 0 9 2 b ∙ ap (λ (r : List ℕ). r ++ part 9 2 b) (part_add 0 7 2 b ∙ ap (λ (r : List ℕ). r ++ part 7 2 b) (part_add 0 4 3 b)))
      ∙ take_all 11 b (le_of_eq eleven)

  same_bytes : ticket_bytes (ticket_of b) ≡ b
  unfolding ticket_bytes ticket_of
  same_bytes =
      let right = fields_accepted _ _ _ _ fields in
      ap₂ ◌++◌
      (ap₂ ◌++◌
      (ap₂ ◌++◌ (packed_number_lem b 0 4 right.of_number.0 (omega (arith, eleven))) (packed_number_lem b 4 3 right.of_pile.0 (omega (arith, eleven))))
      (packed_number_lem b 7 2 right.of_tonnes.0 (omega (arith, eleven))))
      (sym last_two)
      ∙ pieces

  -- and its number is one that a ticket can have
  pub number_within : (ticket_of b).number ≤ number_limit
  number_within = (fields_accepted _ _ _ _ fields).of_number.1

  -- its fields pass as those of a ticket that is written
  values_right : fields_answer true true true (ticket_of b) ≡ 0
  values_right = let right = fields_accepted _ _ _ _ fields in rw (right.of_number.0, right.of_pile.0, right.of_tonnes.0) at fields

-- a ticket that was read and is written again is the same bytes
pub read_and_written : ReadAndWritten
unfolding reading write_answer after_write
read_and_written b e out room =
    let read : (reading b).ticket ≡ ticket_of b = when_accepted _ _ _ e in
    let accepted : write_answer (ticket_of b) out ≡ 0 = none_met (values_right b e) (not_met 8 (le-ltb _ _ room)) in
    rw read (accepted, when_accepted _ _ _ accepted ∙ ap (sets out 0) (same_bytes b e))

-- and a ticket that was written is read unaltered
length_ticket : (t : Ticket) → length (ticket_bytes t) ≡ ticket_length
unfolding ticket_bytes packed_bytes
length_ticket t = refl

module _ (t : Ticket) (values : fields_answer true true true t ≡ 0) where
  same_ticket_lem : ticket_of (ticket_bytes t) ≡ t
  unfolding ticket_of ticket_bytes packed_bytes packed_number
  same_ticket_lem =
      let right = fields_accepted true true true t values in
      let number_is : packed_number 4 (ticket_bytes t) 0 ≡ t.number = number_packed 4 t.number (omega (arith, right.of_number.1)) in
      let pile_is : packed_number 3 (ticket_bytes t) 4 ≡ t.pile = number_packed 3 t.pile (omega (arith, right.of_pile.1)) in
      let tonnes_is : packed_number 2 (ticket_bytes t) 7 ≡ t.tonnes = number_packed 2 t.tonnes (omega (arith, right.of_tonnes.1)) in
      λ i. record { number = number_is i; pile = pile_is i; tonnes = tonnes_is i; kind = t.kind; desk = t.desk }

  same_digits : (digits_right 4 (ticket_bytes t) 0 ≡ true) × (digits_right 3 (ticket_bytes t) 4 ≡ true) × (digits_right 2 (ticket_bytes t) 7 ≡ true)
  unfolding ticket_bytes packed_bytes digits_right every
  same_digits = (right_packed 4 t.number, right_packed 3 t.pile, right_packed 2 t.tonnes)

  accepted : read_answer (ticket_bytes t) ≡ 0
  unfolding read_answer
  accepted =
      none_met (not_met 3 (ap not (eq-eqb _ _ (length_ticket t))))
      ((λ i. fields_answer (same_digits.0 i) (same_digits.1 i) (same_digits.2 i) (same_ticket_lem i)) ∙ values)

  read_back : reading (ticket_bytes t) ≡ handed_back 0 t
  unfolding reading
  read_back = ap₂ handed_back accepted (when_accepted _ _ _ accepted ∙ same_ticket_lem)

pub written_and_read : WrittenAndRead
unfolding write_answer after_write
written_and_read t out e =
    let room : ticket_length ≤ length out = ltb-false _ _ (when_done 7 _ (or_else_rest _ _ e)) in
    let bytes_are : part 0 ticket_length (sets out 0 (ticket_bytes t)) ≡ ticket_bytes t =
    rw (length_ticket t) at (part_sets out 0 (ticket_bytes t) (omega (arith, length_ticket t, room))) in
    ap (λ (after : List ℕ). reading (part 0 ticket_length after)) (when_accepted _ _ _ e) ∙ ap reading bytes_are ∙ read_back t (or_else_first _ _ e)

-- four bytes with right digits say no number over the limit
below_limit : (b : List ℕ) → digits_right 4 b 0 ≡ true → between 0 number_limit (packed_number 4 b 0) ≡ true
unfolding between
below_limit b right =
    let x = packed_number 4 b 0 in
    and_both (le-leb 0 x (omega arith)) (le-leb x number_limit (omega (arith, packed_below b 0 4 right)))

pub number_in_range : NumberInRange
unfolding field_answer ◌when◌ ◌or_else◌
number_in_range b = ⊎_elim (λ right. rw (below_limit b right) (rw right refl)) (λ wrong. rw wrong refl) (decided (digits_right 4 b 0))
