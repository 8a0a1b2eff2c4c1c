-- What 3/12 asks of tickets beside what reading and writing one answers: one packed form for each number, and the same bytes and the same ticket back.
-- Assumes nothing.
use Rattle.std.specs.Prelude.{ℕ, ◌^◌, ◌≤◌, ◌<◌, ◌≡◌, true, not, List, length}
use Rattle.std.proofs.lemmas.List.Edits.{sets}
use Rattle.rules.specs.Refusals.{◌when◌}
use Rattle.rules.specs.Numbers.{part}
use Rattle.ticket.specs.declared.Ticket.{Ticket}
use Rattle.ticket.specs.Packed.{packed_number, packed_bytes, digits_right}
use Rattle.ticket.specs.Tickets.{ticket_length, number_limit, field_answer, read_answer, write_answer, handed_back, reading, after_write}

-- a packed form of a number in w bytes: so many bytes with right digits that say it
abbrev pub PackedForm : (w x : ℕ) → List ℕ → Type 0
PackedForm w x b = (length b ≡ w) × (digits_right w b 0 ≡ true) × (packed_number w b 0 ≡ x)

-- "Every number in range has just one packed form": in w bytes each number below 100^w has the form that is written for it, and no other.
abbrev pub OnePackedForm : Type 0
OnePackedForm =
    (w x : ℕ) → x < 100 ^ w → PackedForm w x (packed_bytes w x) × ((b : List ℕ) → PackedForm w x b → b ≡ packed_bytes w x)

-- "A ticket read and written again is the same bytes": any bytes that are read as a ticket, written into any buffer that has room.
abbrev pub ReadAndWritten : Type 0
ReadAndWritten =
    (b : List ℕ) → read_answer b ≡ 0 → (out : List ℕ) → ticket_length ≤ length out
    → (write_answer (reading b).ticket out ≡ 0) × (after_write (reading b).ticket out ≡ sets out 0 b)

-- And a ticket that was written is read unaltered.
abbrev pub WrittenAndRead : Type 0
WrittenAndRead =
    (t : Ticket) (out : List ℕ) → write_answer t out ≡ 0 → reading (part 0 ticket_length (after_write t out)) ≡ handed_back 0 t

-- Of a ticket number that is read only the digits can be wrong: in reading, its limit refuses nothing.
abbrev pub NumberInRange : Type 0
NumberInRange =
    (b : List ℕ) → field_answer 33 0 number_limit (digits_right 4 b 0) (packed_number 4 b 0) ≡ 33 when not (digits_right 4 b 0)
