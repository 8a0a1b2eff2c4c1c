-- What the laws say of a ticket's fields and bytes, so that a weaker law would be noticed: each field's numbers have one packed form; one ticket is said by
-- one list of bytes; what is written into any buffer is read as that ticket; and 99,999,999 refuses nothing that is read.
-- Assumes nothing.
use Prim.Native.Nat.{ℕ, ◌≤◌, ◌<◌, ◌^◌}
use native.Mathlib.Omega.{arith}
use mathlib.Core.Path.{◌≡◌, ap, sym, ◌∙◌}
use mathlib.Core.Bool.{true, not}
use mathlib.Core.List.{List}
use lib.ListN.{length, replicate}
use Rattle.rules.specs.Numbers.{part}
use Rattle.rules.specs.Pile.{amount_limit}
use Rattle.rules.proofs.Loops.Refusals.{not_met}
use Rattle.rules.proofs.Loops.Sets.{part_sets}
use Rattle.ticket.specs.declared.Ticket.{Ticket}
use Rattle.ticket.specs.Packed.{packed_number, packed_bytes, digits_right}
use Rattle.ticket.specs.Tickets.{Reading, ticket_length, number_limit, field_answer, read_answer, write_answer, reading, after_write}
use Rattle.ticket.specs.Laws.{PackedForm}
use Rattle.ticket.proofs.Digits.{one_packed_form}
use Rattle.ticket.proofs.RoundTrip.{eleven, read_and_written, written_and_read, number_in_range}

-- a number has a packed form, and any two of its forms are the same bytes
abbrev JustOne : ℕ → ℕ → Type 0
JustOne w x = PackedForm w x (packed_bytes w x) × ((b c : List ℕ) → PackedForm w x b → PackedForm w x c → b ≡ c)

just_one : (w x : ℕ) → x < 100 ^ w → JustOne w x
just_one w x l = let (form, only) = one_packed_form w x l in (form, λ b c is_b is_c. only b is_b ∙ sym (only c is_c))

-- so it is with each field's numbers, up to the highest
pub each_field : ((x : ℕ) → x ≤ number_limit → JustOne 4 x) × ((x : ℕ) → x ≤ 65535 → JustOne 3 x) × ((x : ℕ) → x ≤ amount_limit → JustOne 2 x)
each_field = (λ x l. just_one 4 x (omega arith), λ x l. just_one 3 x (omega arith), λ x l. just_one 2 x (omega arith))

-- in any buffer with room, a ticket that was read stands as the bytes that it was read from
pub stands_again : (b out : List ℕ) → read_answer b ≡ 0 → ticket_length ≤ length out
    → (write_answer (reading b).ticket out ≡ 0) × (part 0 ticket_length (after_write (reading b).ticket out) ≡ b)
stands_again b out read room =
    let (accepted, written) = read_and_written b read out room in
    (accepted, ap (part 0 ticket_length) written ∙ rw (eleven b read) at (part_sets out 0 b (omega (arith, eleven b read))))

-- so bytes that are read as the same ticket are the same
pub one_ticket_one_form : (b c : List ℕ) → read_answer b ≡ 0 → read_answer c ≡ 0 → (reading b).ticket ≡ (reading c).ticket → b ≡ c
one_ticket_one_form b c read-b read-c same =
    let buffer : List ℕ = replicate ticket_length 0 in
    sym (stands_again b buffer read-b (omega arith)).1
    ∙ ap (λ (t : Ticket). part 0 ticket_length (after_write t buffer)) same
    ∙ (stands_again c buffer read-c (omega arith)).1

-- a ticket that can be written at all is accepted when it is read, and is that ticket
pub accepted_again : (t : Ticket) (out : List ℕ) → write_answer t out ≡ 0
    → let r = reading (part 0 ticket_length (after_write t out)) in (r.answer ≡ 0) × (r.ticket ≡ t)
accepted_again t out e = (ap (λ (r : Reading). r.answer) (written_and_read t out e), ap (λ (r : Reading). r.ticket) (written_and_read t out e))

-- four bytes with right digits pass as a ticket's number
pub right_digits_pass : (b : List ℕ) → digits_right 4 b 0 ≡ true → field_answer 33 0 number_limit (digits_right 4 b 0) (packed_number 4 b 0) ≡ 0
right_digits_pass b right = number_in_range b ∙ not_met 33 (ap not right)
