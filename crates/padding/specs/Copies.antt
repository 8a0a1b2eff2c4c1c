-- Numbers copied from one list to another.
-- Assumes nothing.
use Rattle.std.specs.Prelude.{ℕ, ◌+◌, List, length, ltb}
use Rattle.std.proofs.lemmas.List.Edits.{sets}
use Rattle.rules.specs.Refusals.{◌when◌, ◌or_else◌, done}
use Rattle.rules.specs.Numbers.{part}

-- so many numbers from a place on, to the places of another list from one on: 3 where the first does not have them, 8 where the other has no room
unfoldable pub copy_answer : ℕ → ℕ → ℕ → ℕ → ℕ → ℕ
copy_answer to room from size count = 3 when ltb size (from + count) or_else 8 when ltb room (to + count)

unfoldable pub after_copy : ℕ → List ℕ → ℕ → List ℕ → ℕ → List ℕ
after_copy to out from l count = done (copy_answer to (length out) from (length l) count) (sets out to (part from count l)) out
