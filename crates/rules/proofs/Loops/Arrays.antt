-- A loop that stores one element of an array after the other, and adds one term of a sum after the other.
-- Assumes nothing.
use Prim.Native.Nat.{ℕ, ◌+◌, ◌<◌}
use native.Mathlib.Nat.{le_of_suc-le-suc, eq-or-lt_of_le}
use native.Mathlib.Numerals.{add-one}
use native.Mathlib.Omega.{arith}
use mathlib.Core.Path.{◌≡◌, ap, subst, sym}
use mathlib.Core.Logic.{⊎_elim}
use mathlib.Core.List.{List}
use lib.ListN.{length, get_or, set}
use lib.Seq.{get_or-set_same, get_or-set_other}
use Rattle.rules.specs.Loops.{sum}

pub sum_next : (k : ℕ) (f : ℕ → ℕ) → sum (k + 1) f ≡ sum k f + f k
unfolding sum
sum_next k f = ap (λ (n : ℕ). sum n f) (add-one k)

-- what holds of each element below j, and of the one stored at j, holds of each below j + 1
pub set_next : (P : ℕ → ℕ → Type 0) (l : List ℕ) (j v : ℕ) → ((k : ℕ) → k < j → P k (get_or l k 0)) → j < length l → P j v
    → (k : ℕ) → k < j + 1 → P k (get_or (set l j v) k 0)
set_next P l j v h j<l new k k<j =
    ⊎_elim
    (λ k≡j. subst (λ (k : ℕ). P k (get_or (set l j v) k 0)) (sym k≡j) (subst (P j) (sym (get_or-set_same l j v 0 j<l)) new))
    (λ k<j. subst (P k) (sym (get_or-set_other l j k v 0 (λ e. omega arith))) (h k k<j))
    (eq-or-lt_of_le (le_of_suc-le-suc (subst (λ (n : ℕ). k < n) (add-one j) k<j)))
