-- Weighbridge tickets (3/12): 11 bytes, what they say, what is wrong with them, and what reading and writing one answers and leaves.
-- Assumes nothing.
use Rattle.std.specs.Prelude.{ℕ, Result, Ok, Err, Bool, true, not, List, [], ◌∷◌, ◌++◌, length, get_or, eqb, ltb}
use Rattle.std.proofs.lemmas.List.Edits.{sets}
use Rattle.rules.specs.Loops.{between}
use Rattle.rules.specs.Refusals.{◌when◌, ◌or_else◌, done}
use Rattle.rules.specs.Pile.{amount_limit}
use Rattle.ticket.specs.declared.Ticket.{Ticket}
use Rattle.refusal.specs.declared.Refusal.{Refusal}
use Rattle.refusal.specs.Answers.{number_of}
use Rattle.ticket.specs.Packed.{packed_number, packed_bytes, digits_right}

abbrev pub ticket_length : ℕ
ticket_length = 11

abbrev pub number_limit : ℕ
number_limit = 99999999

-- the ticket of five numbers
abbrev pub as_ticket : (number pile tonnes kind desk : ℕ) → Ticket
as_ticket number pile tonnes kind desk = record { number = number; pile = pile; tonnes = tonnes; kind = kind; desk = desk }

-- the bytes of a ticket: its number in 4, its pile in 3 and its tonnes in 2, packed; then its kind, 1 for a tip and 2 for a draw, and its desk
unfoldable pub ticket_bytes : Ticket → List ℕ
ticket_bytes t = packed_bytes 4 t.number ++ packed_bytes 3 t.pile ++ packed_bytes 2 t.tonnes ++ t.kind ∷ t.desk ∷ []

-- the ticket of 11 bytes
unfoldable pub ticket_of : List ℕ → Ticket
ticket_of b =
    record {
      number = packed_number 4 b 0;
      pile = packed_number 3 b 4;
      tonnes = packed_number 2 b 7;
      kind = get_or b 9 0;
      desk = get_or b 10 0;
    }

-- a packed field: 33 where a digit is above 9, then its own refusal where its value is out of range
unfoldable pub field_answer : (refusal low high : ℕ) → Bool → ℕ → ℕ
field_answer refusal low high right x = 33 when not right or_else refusal when not (between low high x)

-- the fields in their order; a number that is read is never over its limit (`NumberInRange` in Laws.antt)
unfoldable pub fields_answer : (numberRight pileRight tonnesRight : Bool) → Ticket → ℕ
fields_answer numberRight pileRight tonnesRight t =
    field_answer 33 0 number_limit numberRight t.number
    or_else field_answer 34 1 65535 pileRight t.pile
    or_else field_answer 13 1 amount_limit tonnesRight t.tonnes
    or_else 35 when not (between 1 2 t.kind)
    or_else 35 when ltb 7 t.desk

-- reading a list of bytes
unfoldable pub read_answer : List ℕ → ℕ
read_answer b =
    3 when not (eqb (length b) ticket_length)
    or_else fields_answer (digits_right 4 b 0) (digits_right 3 b 4) (digits_right 2 b 7) (ticket_of b)

-- writing a ticket into a lent buffer: its numbers are not packed yet, so no digit of them can be wrong
unfoldable pub write_answer : Ticket → List ℕ → ℕ
write_answer t out = fields_answer true true true t or_else 8 when ltb (length out) ticket_length

-- what a reading comes to: its answer, and the ticket, which beside a refusal is that of all zeros
pub record Reading : Type 0 where
  pub answer : ℕ
  pub ticket : Ticket

abbrev pub no_ticket : Ticket
no_ticket = as_ticket 0 0 0 0 0

abbrev pub handed_back : ℕ → Ticket → Reading
handed_back answer ticket = record { answer = answer; ticket = ticket }

unfoldable pub reading : List ℕ → Reading
reading b = handed_back (read_answer b) (done (read_answer b) (ticket_of b) no_ticket)

-- what the code hands back, as a reading: a refusal has no ticket beside it
abbrev pub as_reading : Result Ticket Refusal → Reading
as_reading (Ok ticket) = handed_back 0 ticket
as_reading (Err refusal) = handed_back (number_of refusal) no_ticket

-- what a writing leaves: the ticket from the buffer's start on, and every byte past it as it was; all of it as it was where it is refused
unfoldable pub after_write : Ticket → List ℕ → List ℕ
after_write t out = done (write_answer t out) (sets out 0 (ticket_bytes t)) out
