-- The two runs of a row of n desks: how many numbers stand before those of tip, and where these start; and where the next row starts.
-- Assumes nothing.
use Prim.Native.Nat.{ℕ, ◌+◌, ◌*◌, ◌≤◌}
use native.Mathlib.Omega.{arith}
use mathlib.Core.Path.{◌≡◌}
use Rattle.rules.specs.Pile.{tip}
use Rattle.rules.specs.Layout.{column, row_length, body_length, cell_at}
use Rattle.rules.proofs.File.Body.{row_within}

module _ (n : ℕ) {front : ℕ} (is : front ≡ column n tip 0) where
  pub front_is : front ≡ 2 + n
  front_is = omega (arith, is)

  pub tips_at : {tips : ℕ} → tips ≡ cell_at n 0 front → tips ≡ 8 + 4 * n
  unfolding cell_at
  tips_at e = omega (arith, e, is)

-- row r of the body at a position lies within the bytes, and the row behind it starts where it ends
module _ (n at r : ℕ) {to : ℕ} (here : to ≡ at + r * (8 * (n + 1))) where
  pub row_there : {long : ℕ} → r ≤ n → at + body_length n ≤ long → to + 8 * (n + 1) ≤ long
  unfolding row_length
  row_there r≤n within = omega (arith, here, row_within n r (omega arith), within)

  pub row_behind : {size : ℕ} → size ≡ row_length n → to + size ≡ at + (r + 1) * (8 * (n + 1))
  unfolding row_length
  row_behind e = omega (arith, e, here)
