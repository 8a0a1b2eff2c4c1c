-- A body is short.
-- Assumes nothing.
use Prim.Native.Nat.{ℕ, ◌+◌, ◌≤◌}
use native.Mathlib.Nat.{mul-le-mul}
use native.Mathlib.Omega.{arith}
use Rattle.rules.specs.Layout.{desk_limit, body_length}

pub body_most : (n : ℕ) → n ≤ desk_limit → body_length n ≤ 648
unfolding body_length
body_most n l =
    let high : n + 1 ≤ 9 = omega arith in
    omega (arith, mul-le-mul high high)
