-- `cell_at` adds up the rows and the columns before the number.
use Prim.Native.Nat.{◌*◌, ◌≤◌}
use native.Mathlib.Nat.{mul-le-mul}
use native.Mathlib.Omega.{arith}
use Rattle.rules.specs.Layout.{row_length}
use Rattle.layout.proofs.cells.cell_at.Goals as goal
use Rattle.layout.proofs.cells.cell_at.Goals.{After-row_length}

-- the rows before it are short, since there are few desks
rows_most : (c : After-row_length) → c.from.result * c.row_length.result ≤ 255 * 2048
unfolding row_length
rows_most c =
    let rows : c.from.result ≤ 255 = omega arith in
    let row : c.row_length.result ≤ 2048 = omega (arith, c.row_length.ensures) in
    mul-le-mul rows row

pub overflow_mul-result : goal.overflow_mul-result
overflow_mul-result c = omega (arith, rows_most (goal.at.overflow_mul-result c).After-row_length)

pub overflow_add-result : goal.overflow_add-result
overflow_add-result c = omega (arith, rows_most (goal.at.overflow_add-result c).After-row_length)
