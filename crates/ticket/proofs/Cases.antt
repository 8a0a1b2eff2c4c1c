-- 3/12 on tickets: the worked one, the first and last value of each field, and each refusal before all that come after it.
-- A row of refusals is a list of answers, of calls in which ever fewer things are wrong.
-- Assumes nothing.
use Prim.Native.Nat.{ℕ}
use mathlib.Core.Path.{refl}
use mathlib.Core.List.{List, [], ◌∷◌, ◌++◌}
use lib.ListN.{take, replicate}
use lib.Seq.{sets}
use Rattle.rules.proofs.Cases.Table.{Case, case, AllHold, all_hold, open_loops, open_refusals}
use Rattle.ticket.specs.declared.Ticket.{Ticket}
use Rattle.ticket.specs.Packed.{pair_right, packed_number, packed_bytes, digits_right}
use Rattle.ticket.specs.Tickets.{Reading, as_ticket, ticket_bytes, ticket_of, field_answer, fields_answer, read_answer, write_answer, reading, after_write}

-- ticket 12345678: 30 tonnes tipped onto pile 7 by desk 0. In hexadecimal 12 34 56 78 00 00 07 00 30 01 00.
abbrev worked : Ticket
worked = as_ticket 12345678 7 30 1 0

abbrev worked_bytes : List ℕ
worked_bytes = 18 ∷ 52 ∷ 86 ∷ 120 ∷ 0 ∷ 0 ∷ 7 ∷ 0 ∷ 48 ∷ 1 ∷ 0 ∷ []

abbrev shown : Reading → List ℕ
shown r = r.answer ∷ r.ticket.number ∷ r.ticket.pile ∷ r.ticket.tonnes ∷ r.ticket.kind ∷ r.ticket.desk ∷ []

-- the answer of reading the worked ticket with other bytes from a position on, and of writing a ticket into so many bytes
abbrev read : ℕ → List ℕ → ℕ
read at v = read_answer (sets worked_bytes at v)

abbrev write : ℕ → ℕ → ℕ → ℕ → ℕ → ℕ → ℕ
write number pile tonnes kind desk room = write_answer (as_ticket number pile tonnes kind desk) (replicate room 0)

-- wrong fields, each beside wrong ones after it; wrong digits make values that are out of range too
abbrev desk_wrong : List ℕ
desk_wrong = sets worked_bytes 10 (8 ∷ [])

abbrev kind_wrong : List ℕ
kind_wrong = sets desk_wrong 9 (3 ∷ [])

abbrev tonnes_wrong : List ℕ
tonnes_wrong = sets kind_wrong 7 (0 ∷ 0 ∷ [])

abbrev tonnes_digits_wrong : List ℕ
tonnes_digits_wrong = sets kind_wrong 7 (255 ∷ 255 ∷ [])

abbrev pile_wrong : List ℕ
pile_wrong = sets tonnes_digits_wrong 4 (0 ∷ 0 ∷ 0 ∷ [])

abbrev pile_digits_wrong : List ℕ
pile_digits_wrong = sets tonnes_digits_wrong 4 (255 ∷ 255 ∷ 255 ∷ [])

abbrev number_digits_wrong : List ℕ
number_digits_wrong = sets pile_wrong 0 (255 ∷ 255 ∷ 255 ∷ 255 ∷ [])

abbrev table : List Case
table =
    case "The worked ticket's bytes, and the ticket that they say" (ticket_bytes worked ++ shown (reading worked_bytes))
    (worked_bytes ++ (0 ∷ 12345678 ∷ 7 ∷ 30 ∷ 1 ∷ 0 ∷ []))
    ∷ case "Reading, in this order: 3, the number's digits, the pile's digits and value, the tonnes' digits and value, kind, desk"
    (read_answer (take 10 number_digits_wrong)
    ∷ read_answer (number_digits_wrong ++ (0 ∷ []))
    ∷ read_answer number_digits_wrong
    ∷ read_answer pile_digits_wrong
    ∷ read_answer pile_wrong
    ∷ read_answer tonnes_digits_wrong
    ∷ read_answer tonnes_wrong
    ∷ read_answer kind_wrong
    ∷ read_answer desk_wrong
    ∷ read_answer worked_bytes
    ∷ [])
    (3 ∷ 3 ∷ 33 ∷ 33 ∷ 34 ∷ 33 ∷ 13 ∷ 35 ∷ 35 ∷ 0 ∷ [])
    ∷ case "A refused reading hands back a ticket of zeros" (shown (reading []) ++ shown (reading desk_wrong)) (3 ∷ 0 ∷ 0 ∷ 0 ∷ 0 ∷ 0 ∷ 35 ∷ 0 ∷ 0 ∷ 0 ∷ 0 ∷ 0 ∷ [])
    ∷ case "Digits up to 9, high and low, in the first and the last byte of a field"
    (read 0 (144 ∷ [])
    ∷ read 0 (160 ∷ [])
    ∷ read 3 (9 ∷ [])
    ∷ read 3 (10 ∷ [])
    ∷ read 4 (10 ∷ [])
    ∷ read 6 (160 ∷ [])
    ∷ read 7 (10 ∷ [])
    ∷ read 8 (58 ∷ [])
    ∷ [])
    (0 ∷ 33 ∷ 0 ∷ 33 ∷ 33 ∷ 33 ∷ 33 ∷ 33 ∷ [])
    ∷ case "The first and the last pile, tonnes, kind and desk, and what lies outside"
    (read 4 (0 ∷ 0 ∷ 1 ∷ [])
    ∷ read 4 (6 ∷ 85 ∷ 53 ∷ [])
    ∷ read 4 (6 ∷ 85 ∷ 54 ∷ [])
    ∷ read 7 (0 ∷ 1 ∷ [])
    ∷ read 7 (16 ∷ 0 ∷ [])
    ∷ read 7 (16 ∷ 1 ∷ [])
    ∷ read 9 (0 ∷ [])
    ∷ read 9 (2 ∷ [])
    ∷ read 9 (3 ∷ [])
    ∷ read 10 (7 ∷ [])
    ∷ read 10 (8 ∷ [])
    ∷ [])
    (0 ∷ 0 ∷ 34 ∷ 0 ∷ 0 ∷ 13 ∷ 35 ∷ 0 ∷ 35 ∷ 0 ∷ 35 ∷ [])
    ∷ case "Writing, in this order: a number over 99,999,999, the pile, the tonnes, kind, desk, and 8 last"
    (write 100000000 0 0 0 8 10
    ∷ write 99999999 0 0 0 8 10
    ∷ write 0 65536 0 0 8 10
    ∷ write 0 65535 0 0 8 10
    ∷ write 0 1 1001 0 8 10
    ∷ write 0 1 1000 0 8 10
    ∷ write 0 1 1 3 8 10
    ∷ write 0 1 1 2 8 10
    ∷ write 0 1 1 1 7 10
    ∷ write 0 1 1 1 7 11
    ∷ [])
    (33 ∷ 34 ∷ 34 ∷ 13 ∷ 13 ∷ 35 ∷ 35 ∷ 35 ∷ 8 ∷ 0 ∷ [])
    ∷ case "Bytes past the ticket stay, and a refused writing leaves all as it was"
    (after_write worked (replicate 13 9) ++ after_write worked (replicate 10 9) ++ after_write (as_ticket 0 7 30 1 8) (replicate 11 9))
    (worked_bytes ++ (9 ∷ 9 ∷ []) ++ replicate 10 9 ++ replicate 11 9)
    ∷ []

pub tickets_hold : AllHold table
unfolding open_loops open_refusals pair_right packed_number packed_bytes digits_right ticket_bytes ticket_of field_answer fields_answer read_answer write_answer reading after_write
tickets_hold = all_hold table refl
