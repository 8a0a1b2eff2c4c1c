-- A number of 4 bytes by its bytes and by its halves; past the end a number is 0.
-- Assumes nothing.
use Prim.Native.Nat.{ℕ, zero, suc, ◌+◌, ◌*◌, ◌/◌, ◌%◌, ◌≤◌}
use native.Mathlib.Nat.{div-div-eq-div-mul}
use native.Mathlib.Omega.{arith}
use mathlib.Core.Path.{◌≡◌, refl}
use mathlib.Core.List.{List, [], ◌∷◌}
use lib.ListN.{length, get_or, get_or-eq_default}
use Rattle.rules.specs.Numbers.{number, bytes}

-- past the end of the bytes
pub number_past : (w : ℕ) (b : List ℕ) (at : ℕ) → length b ≤ at → number w b at ≡ 0
unfolding number
number_past zero b at l = refl
number_past (suc w) b at l = omega (arith, get_or-eq_default b 0 l, number_past w b (suc at) (omega arith))

-- a number by its bytes, and by its halves
module _ (b : List ℕ) (at : ℕ) where
  one : at + 1 ≡ suc at
  one = omega arith

  two : at + 2 ≡ suc (suc at)
  two = omega arith

  three : at + 3 ≡ suc (suc (suc at))
  three = omega arith

  pub number_bytes : get_or b at 0 + 256 * get_or b (at + 1) 0 + 65536 * get_or b (at + 2) 0 + 16777216 * get_or b (at + 3) 0 ≡ number 4 b at
  unfolding number
  number_bytes = rw (one, two, three) (omega arith)

  pub number_halves : number 2 b at + 65536 * number 2 b (at + 2) ≡ number 4 b at
  unfolding number
  number_halves = rw two (omega arith)

-- the bytes of a number of 4
pub four_bytes : (x : ℕ) → x % 256 ∷ x / 256 % 256 ∷ x / 65536 % 256 ∷ x / 16777216 % 256 ∷ [] ≡ bytes 4 x
unfolding bytes
four_bytes x = rw (div-div-eq-div-mul x 256 256, div-div-eq-div-mul x 65536 256) refl
