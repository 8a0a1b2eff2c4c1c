-- Different cells of a book stand apart: a cell lies within its row, a row within its body, a body within the book.
-- Assumes nothing.
use Prim.Native.Nat.{ℕ, suc, ◌+◌, ◌*◌, ◌≤◌, ◌<◌}
use native.Mathlib.Nat.{mul-le-mul_right}
use native.Mathlib.Decide.{ℕ_discrete}
use native.Mathlib.Omega.{arith}
use mathlib.Core.Path.{ap}
use mathlib.Core.Logic.{◌⊎◌, inl, inr, ⊎_elim, by_cases, ◌≢◌}
use Rattle.rules.specs.Layout.{Head, row_length, body_length, body_at, cell_at, columns}
use Rattle.rules.proofs.File.Positions.{body_start_lem}
use Rattle.rules.proofs.Loops.Ranges.{Apart, below_or_above, pieces_apart}

-- a cell of n desks lies within its body
pub cell_fits : (n r c : ℕ) → r < suc n → c < columns n → cell_at n r c + 4 ≤ body_length n
unfolding cell_at row_length body_length
cell_fits n r c r<n c<w = omega (arith, mul-le-mul_right (8 * (n + 1)) r<n)

-- cells of different bodies, and different cells of one body
pub bodies_apart : (h : Head) (k k' r r' c c' : ℕ) → let n = h.desks in r < suc n → r' < suc n → c < columns n → c' < columns n → k ≢ k'
    → Apart (body_at h k + cell_at n r c) 4 (body_at h k' + cell_at n r' c') 4
bodies_apart h k k' r r' c c' r<n r'<n c<w c'<w d =
    let n = h.desks in
    ⊎_elim (λ l. inl (omega (arith, body_start_lem h k, body_start_lem h k'))) (λ l. inr (omega (arith, body_start_lem h k, body_start_lem h k')))
    (pieces_apart (body_length n) k k' (cell_at n r c) (cell_at n r' c') 4 d (cell_fits n r c r<n c<w) (cell_fits n r' c' r'<n c'<w))

pub cells_apart : (n at r r' c c' : ℕ) → c < columns n → c' < columns n → (r ≢ r') ⊎ (c ≢ c')
    → Apart (at + cell_at n r c) 4 (at + cell_at n r' c') 4
unfolding cell_at row_length
cells_apart n at r r' c c' c<w c'<w h =
    by_cases (ℕ_discrete r r')
    (λ e. ⊎_elim (λ l. inl (omega (arith, ap (λ (r : ℕ). r * (8 * (n + 1))) e)))
    (λ l. inr (omega (arith, ap (λ (r : ℕ). r * (8 * (n + 1))) e)))
    (below_or_above c c' (⊎_elim (λ d. absurd (d e)) (λ d. d) h)))
    (λ d. ⊎_elim (λ l. inl (omega arith)) (λ l. inr (omega arith))
    (pieces_apart (8 * (n + 1)) r r' (c * 4) (c' * 4) 4 d (omega arith) (omega arith)))
