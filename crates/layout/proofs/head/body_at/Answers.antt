-- `body_at` adds up what stands before the body.
use Prim.Native.Nat.{◌*◌, ◌≤◌}
use native.Mathlib.Nat.{mul-le-mul}
use native.Mathlib.Omega.{arith}
use Rattle.layout.specs.Positions.{as_head}
use Rattle.layout.proofs.Positions.{front_most, size_most}
use Rattle.layout.proofs.head.body_at.Goals as goal
use Rattle.layout.proofs.head.body_at.Goals.{After-body_length}

-- what the bodies before it come to
bodies_most : (c : After-body_length) → c.from.result * c.body_length.result ≤ 255 * 648
bodies_most c =
    let body : c.body_length.result ≤ 648 = omega (arith, c.body_length.ensures, size_most c.args.head.desks) in
    let k≤255 : c.from.result ≤ 255 = omega arith in
    mul-le-mul k≤255 body

pub overflow_mul-result : goal.overflow_mul-result
overflow_mul-result c = omega (arith, bodies_most (goal.at.overflow_mul-result c).After-body_length)

pub overflow_add-result : goal.overflow_add-result
overflow_add-result c = omega (arith, bodies_most (goal.at.overflow_add-result c).After-body_length, c.front_length.ensures, front_most (as_head c.args.head) (omega arith))
