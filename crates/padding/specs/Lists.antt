-- A pile record as a list of 163 numbers, and a list of numbers as a record: n, floor, top, 8 draw shares, 8 tip shares, then 8 rows, each tipped, drawn,
-- 8 draw gives, 8 tip gives. What the calls on such lists answer and leave.
-- Assumes nothing.
use Rattle.std.specs.Prelude.{ℕ, ◌+◌, not, List, ◌∷◌, ◌++◌, length, get_or, ltb, eqb}
use Rattle.std.proofs.lemmas.List.Edits.{sets}
use Rattle.rules.specs.Loops.{between}
use Rattle.rules.specs.Refusals.{◌when◌, ◌or_else◌, done}
use Rattle.rules.specs.Numbers.{part}
use Rattle.rules.specs.Layout.{desk_limit, body_length, body_view, body_bytes}
use Rattle.rules.specs.Record.{Record, share_places, tally_places, record_view, record_answer, record_of}

abbrev pub shares_at : ℕ
shares_at = 3

abbrev pub tallies_at : ℕ
tallies_at = shares_at + share_places

abbrev pub record_length : ℕ
record_length = tallies_at + tally_places

-- a record's numbers as a body of 8 desks, and n before them
unfoldable pub body_numbers : Record → List ℕ
body_numbers r = r.floor ∷ r.top ∷ (r.shares ++ r.tallies)

unfoldable pub record_numbers : Record → List ℕ
record_numbers r = r.n ∷ body_numbers r

unfoldable pub numbers_record : List ℕ → Record
numbers_record l =
    record {
      n = get_or l 0 0;
      floor = get_or l 1 0;
      top = get_or l 2 0;
      shares = part shares_at share_places l;
      tallies = part tallies_at tally_places l;
    }

-- the body of n desks at a position into a lent list: 2 for n, 3 where no body is there, 8 where the list is shorter than a record; numbers past the record stay
unfoldable pub pad_answer : ℕ → ℕ → ℕ → ℕ → ℕ
pad_answer n at size room =
    2 when not (between 1 desk_limit n) or_else 3 when ltb size (at + body_length n) or_else 8 when ltb room record_length

unfoldable pub after_pad : ℕ → ℕ → List ℕ → List ℕ → List ℕ
after_pad n at b out =
    done (pad_answer n at (length b) (length out)) (sets out 0 (record_numbers (record_of n (body_view n b at)))) out

-- a list's record as a body at a position: 3 for a list of another length, 2 for its n, 8 where the body has no room
unfoldable pub pack_answer : List ℕ → ℕ → ℕ → ℕ
pack_answer l at size =
    3 when not (eqb (length l) record_length) or_else 2 when not (between 1 desk_limit (get_or l 0 0)) or_else 8 when ltb size (at + body_length (get_or l 0 0))

unfoldable pub after_pack : List ℕ → ℕ → List ℕ → List ℕ
after_pack l at b = done (pack_answer l at (length b)) (sets b at (body_bytes (get_or l 0 0) (record_view (numbers_record l)))) b

-- the own refusal of a list's record
unfoldable pub list_answer : List ℕ → ℕ
list_answer l = 3 when not (eqb (length l) record_length) or_else record_answer (numbers_record l)
