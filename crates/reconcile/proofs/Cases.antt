-- 4/12 on lists of tickets: each refusal before all that come after it, and the four counts of a shift.
-- A row of refusals is a list of answers, of calls in which ever fewer things are wrong.
-- Assumes nothing.
use Prim.Native.Nat.{ℕ}
use mathlib.Core.Path.{◌≡◌, refl}
use mathlib.Core.Bool.{true}
use mathlib.Core.List.{List, [], ◌∷◌, ◌++◌}
use lib.ListN.{length, take, replicate}
use lib.Dec.{leb}
use lib.Seq.{sets}
use borrow.Author.Tests.{leb-true}
use Rattle.rules.specs.Loops.{every}
use Rattle.rules.proofs.Loops.Every.{every_at}
use Rattle.rules.proofs.Cases.Table.{Case, case, AllHold, all_hold, open_loops, open_refusals}
use Rattle.ticket.specs.declared.Ticket.{Ticket}
use Rattle.ticket.specs.Packed.{pair_right, packed_number, packed_bytes, digits_right}
use Rattle.ticket.specs.Tickets.{number_limit, as_ticket, ticket_bytes, ticket_of, field_answer, fields_answer, read_answer}
use Rattle.reconcile.specs.Counts.{number_at, same_ticket, has, shares, numbers_rise}
use Rattle.reconcile.specs.Lists.{tickets_of, length_wrong, tickets_answer, reconcile_answer, reconciled, counted}
use Rattle.reconcile.specs.Laws.{RisingList}
use Rattle.reconcile.proofs.Laws.{alike_along, differing_along, only_along}

-- a load that desk 0 tips onto pile 7, and its bytes
abbrev load : ℕ → ℕ → Ticket
load number tonnes = as_ticket number 7 tonnes 1 0

abbrev bytes : ℕ → ℕ → List ℕ
bytes number tonnes = ticket_bytes (load number tonnes)

-- lists of two tickets: one that rises, one with a number that repeats, and one that falls
abbrev right : List ℕ
right = bytes 2 30 ++ bytes 4 30

abbrev repeating : List ℕ
repeating = bytes 4 30 ++ bytes 4 30

abbrev falling : List ℕ
falling = bytes 4 30 ++ bytes 2 30

-- the same with wrong tickets: the last one's tonnes, and then the first one's desk too
abbrev last_wrong : List ℕ → List ℕ
last_wrong l = sets l 18 (0 ∷ 0 ∷ [])

abbrev both_wrong : List ℕ → List ℕ
both_wrong l = sets (last_wrong l) 10 (8 ∷ [])

abbrev table : List Case
table =
    case "Two lists, in this order: 3 for either length, the bridge's tickets in list order, the desk's, 36, 37"
    (reconcile_answer (both_wrong falling ++ (0 ∷ [])) (both_wrong falling)
    ∷ reconcile_answer (both_wrong falling) (take 21 (both_wrong falling))
    ∷ reconcile_answer (both_wrong falling) (both_wrong falling)
    ∷ reconcile_answer (last_wrong falling) (both_wrong falling)
    ∷ reconcile_answer falling (both_wrong falling)
    ∷ reconcile_answer falling (last_wrong falling)
    ∷ reconcile_answer falling falling
    ∷ reconcile_answer right falling
    ∷ reconcile_answer right right
    ∷ [])
    (3 ∷ 3 ∷ 35 ∷ 13 ∷ 35 ∷ 13 ∷ 36 ∷ 37 ∷ 0 ∷ [])
    ∷ case "Numbers that repeat do not rise; lists of one ticket and of none do"
    (reconcile_answer repeating right
    ∷ reconcile_answer right repeating
    ∷ reconcile_answer (bytes 4 30) (bytes 2 30)
    ∷ reconcile_answer [] right
    ∷ reconcile_answer [] []
    ∷ [])
    (36 ∷ 37 ∷ 0 ∷ 0 ∷ 0 ∷ [])
    ∷ case "4,096 tickets are not too many (of zeros, the first has pile 0), and 4,097 are"
    (reconcile_answer (replicate 45056 0) []
    ∷ reconcile_answer [] (replicate 45056 0)
    ∷ reconcile_answer (replicate 45067 0) []
    ∷ reconcile_answer [] (replicate 45067 0)
    ∷ [])
    (34 ∷ 34 ∷ 3 ∷ 3 ∷ [])
    ∷ []

pub lists_hold : AllHold table
unfolding open_loops open_refusals pair_right packed_number packed_bytes digits_right ticket_bytes ticket_of field_answer fields_answer read_answer numbers_rise tickets_of length_wrong tickets_answer reconcile_answer
lists_hold = all_hold table refl

-- A shift: of 1 2 5 at the bridge and 2 5 6 9 at the desk, 5 is alike and 2 differs. No computation goes over all numbers that a ticket can have: the
-- lists rise, so that the counts are those of their tickets.
abbrev at_bridge : List Ticket
at_bridge = load 1 30 ∷ load 2 28 ∷ load 5 31 ∷ []

abbrev at_desk : List Ticket
at_desk = load 2 30 ∷ load 5 31 ∷ load 6 12 ∷ load 9 12 ∷ []

listed : (l : List Ticket) → numbers_rise l ≡ true → every (length l) (λ k. leb (number_at l k) number_limit) ≡ true → RisingList l
listed l rises within = record { rises = rises; in_range = λ k inside. leb-true _ _ (every_at (length l) _ within k inside) }

pub shift_counted : counted at_bridge at_desk ≡ reconciled 0 1 1 1 2
unfolding open_loops same_ticket has shares numbers_rise counted
shift_counted =
    let bridge = listed at_bridge refl refl in
    let desk = listed at_desk refl refl in
    λ i. reconciled 0 (alike_along bridge at_desk i) (differing_along bridge at_desk i) (only_along bridge at_desk i) (only_along desk at_bridge i)
