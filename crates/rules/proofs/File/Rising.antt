-- Pile numbers that rise.
-- Assumes nothing.
use Prim.Native.Nat.{ℕ, zero, suc, ◌^◌, ◌≤◌, ◌<◌}
use native.Mathlib.Nat.{le_of_suc-le, ne_of_lt}
use native.Mathlib.Omega.{arith}
use mathlib.Core.Path.{◌≡◌, refl, ap, ap₂}
use mathlib.Core.Bool.{true}
use lib.Dec.{ltb, leb, eqb}
use borrow.Author.Tests.{leb-true, ltb-true, eq-eqb, ne_eqb}
use Rattle.rules.specs.Loops.{◌and◌, index}
use Rattle.rules.specs.Layout.{pile_number_limit}
use Rattle.rules.specs.Opening.{previous, rising}
use Rattle.rules.proofs.Loops.Logic.{and_left, and_right}
use Rattle.rules.proofs.Loops.Every.{every_at, every_cong, index_first}
use Rattle.rules.proofs.Loops.Counts.{each_above}

pub rising_cong : (p : ℕ) (f g : ℕ → ℕ) → ((k : ℕ) → k < p → f k ≡ g k) → rising p f ≡ rising p g
unfolding rising
rising_cong p f g h = every_cong p same
  where
    same : (k : ℕ) → k < p
        → ltb (previous f k) (f k) and leb (f k) pile_number_limit ≡ ltb (previous g k) (g k) and leb (g k) pile_number_limit
    same zero l = ap (λ (x : ℕ). ltb 0 x and leb x pile_number_limit) (h 0 l)
    same (suc k) l = ap₂ (λ (y x : ℕ). ltb y x and leb x pile_number_limit) (h k (le_of_suc-le l)) (h (suc k) l)

pub number_most : (p : ℕ) (f : ℕ → ℕ) → rising p f ≡ true → (k : ℕ) → k < p → f k < 256 ^ 2
unfolding rising
number_most p f e k l =
    let most : f k ≤ pile_number_limit = leb-true _ _ (and_right _ _ (every_at p _ e k l)) in
    omega arith

pub number_above : (p : ℕ) (f : ℕ → ℕ) → rising p f ≡ true → (j k : ℕ) → j < k → k < p → f j < f k
unfolding rising
number_above p f e = each_above p f (λ k b. ltb-true _ _ (and_left _ _ (every_at p _ e (suc k) b)))

-- a pile's number is found at its own place
pub place_of_number : (p : ℕ) (f : ℕ → ℕ) → rising p f ≡ true → (k : ℕ) → k < p → index p (λ j. eqb (f j) (f k)) ≡ k
place_of_number p f e k l =
    index_first p (λ j. eqb (f j) (f k)) k l (eq-eqb (f k) (f k) refl) (λ j b. ne_eqb (f j) (f k) (ne_of_lt (number_above p f e j k b l)))
