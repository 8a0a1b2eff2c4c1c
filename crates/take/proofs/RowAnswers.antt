-- What a row is answered in a take, case by case: 31 where the rows are split, 32 where they are the taker's own and the copy's is later.
-- Assumes nothing.
use mathlib.Core.Path.{◌≡◌, refl}
use mathlib.Core.Bool.{Bool, true, false, cond}
use Rattle.rules.specs.Loops.{◌and◌}
use Rattle.rules.specs.Refusals.{◌when◌, ◌or_else◌}
use Rattle.rules.specs.Rows.{Comparison, both_alike, mine_later, copy_later, both_split, refused, is_copy_later, is_split}
use Rattle.rules.specs.Take.{row_answer}

pub row_told : (takers : Bool) (rows : Comparison) → row_answer takers rows ≡ cond (is_split rows) 31 (cond (is_copy_later rows) (cond takers 32 0) 0)
unfolding row_answer ◌when◌ ◌or_else◌ ◌and◌
row_told takers both_alike = refl
row_told takers mine_later = refl
row_told true copy_later = refl
row_told false copy_later = refl
row_told takers both_split = refl
row_told takers (refused number) = refl
