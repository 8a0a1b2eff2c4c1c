-- Pieces of one length, one after the other: each lies within them all, and different ones do not meet.
-- Assumes nothing.
use Prim.Native.Nat.{ℕ, ◌+◌, ◌*◌, ◌≤◌, ◌<◌}
use native.Mathlib.Nat.{mul-le-mul_right}
use native.Mathlib.Decide.{dec_lt}
use native.Mathlib.Omega.{arith}
use mathlib.Core.Logic.{◌⊎◌, inl, inr, ⊎_elim, by_cases, ◌≢◌}

pub piece_within : (ℓ : ℕ) {k m : ℕ} → k < m → k * ℓ + ℓ ≤ m * ℓ
piece_within ℓ l = omega (arith, mul-le-mul_right ℓ l)

-- two ranges of positions do not meet
abbrev pub Apart : ℕ → ℕ → ℕ → ℕ → Type 0
Apart at m at' m' = (at + m ≤ at') ⊎ (at' + m' ≤ at)

-- of two different numbers one is below the other
pub below_or_above : (a b : ℕ) → a ≢ b → (a < b) ⊎ (b < a)
below_or_above a b h = by_cases (dec_lt a b) inl (λ n. inr (omega arith))

-- pieces of one length with different numbers, and places in them
pub pieces_apart : (ℓ k k' j j' w : ℕ) → k ≢ k' → j + w ≤ ℓ → j' + w ≤ ℓ → Apart (k * ℓ + j) w (k' * ℓ + j') w
pieces_apart ℓ k k' j j' w h fits fits' =
    ⊎_elim (λ l. inl (omega (arith, piece_within ℓ l))) (λ l. inr (omega (arith, piece_within ℓ l)))
    (below_or_above k k' h)
