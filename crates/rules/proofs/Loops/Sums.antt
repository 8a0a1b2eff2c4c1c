-- Sums over the numbers below n.
-- Assumes nothing.
use Prim.Native.Nat.{ℕ, zero, suc, ◌+◌, ◌*◌, ◌≤◌, ◌<◌}
use native.Mathlib.Nat.{le_refl, le_step, add-le-add, not-suc-le-zero, le_of_suc-le-suc, eq-or-lt_of_le, zero-add, add-zero, add-suc, zero-mul, suc-mul}
use native.Mathlib.Decide.{dec_le, ℕ_discrete}
use native.Mathlib.Omega.{arith}
use mathlib.Core.Path.{◌≡◌, refl, ap, ap₂, sym, ◌∙◌}
use mathlib.Core.Logic.{◌≢◌, ⊎_elim, by_cases}
use mathlib.Core.Bool.{Bool, cond}
use lib.Dec.{eqb}
use borrow.Author.Tests.{eq-eqb, ne_eqb}
use Rattle.rules.specs.Loops.{sum}

pub sum_cong : (n : ℕ) {f g : ℕ → ℕ} → ((k : ℕ) → k < n → f k ≡ g k) → sum n f ≡ sum n g
unfolding sum
sum_cong zero h = refl
sum_cong (suc n) h = ap₂ ◌+◌ (sum_cong n (λ k l. h k (le_step l))) (h n (le_refl (suc n)))

pub sum_le : (n : ℕ) {f g : ℕ → ℕ} → ((k : ℕ) → k < n → f k ≤ g k) → sum n f ≤ sum n g
unfolding sum
sum_le zero h = le_refl 0
sum_le (suc n) h = add-le-add (sum_le n (λ k l. h k (le_step l))) (h n (le_refl (suc n)))

pub sum_zero : (n : ℕ) → sum n (λ k. 0) ≡ 0
unfolding sum
sum_zero zero = refl
sum_zero (suc n) = omega (arith, sum_zero n)

pub sum_add : (n : ℕ) (f g : ℕ → ℕ) → sum n (λ k. f k + g k) ≡ sum n f + sum n g
unfolding sum
sum_add zero f g = refl
sum_add (suc n) f g = omega (arith, sum_add n f g)

-- the first term apart; and a sum over p runs of m terms
pub sum_first : (n : ℕ) (f : ℕ → ℕ) → sum (suc n) f ≡ f 0 + sum n (λ k. f (suc k))
unfolding sum
sum_first zero f = omega arith
sum_first (suc n) f = omega (arith, sum_first n f)

sum_range : (m m' : ℕ) (f : ℕ → ℕ) → sum (m + m') f ≡ sum m f + sum m' (λ k. f (m + k))
unfolding sum
sum_range m zero f = rw (add-zero m) (sym (add-zero _))
sum_range m (suc m') f = rw (add-suc m m') (omega (arith, sum_range m m' f))

pub sum_runs : (p m : ℕ) (f : ℕ → ℕ) → sum (p * m) f ≡ sum p (λ k. sum m (λ r. f (k * m + r)))
unfolding sum
sum_runs zero m f = rw (zero-mul m)
sum_runs (suc p) m f = rw (suc-mul p m) (sum_range (p * m) m f ∙ ap (λ (x : ℕ). x + sum m (λ r. f (p * m + r))) (sum_runs p m f))

pub sum_swap : (n m : ℕ) (f : ℕ → ℕ → ℕ) → sum n (λ i. sum m (f i)) ≡ sum m (λ j. sum n (λ i. f i j))
unfolding sum
sum_swap zero m f = sym (sum_zero m)
sum_swap (suc n) m f = ap (λ (x : ℕ). x + sum m (f n)) (sum_swap n m f) ∙ sym (sum_add m (λ j. sum n (λ i. f i j)) (f n))

pub term_le : (n k : ℕ) (f : ℕ → ℕ) → k < n → f k ≤ sum n f
unfolding sum
term_le zero k f l = absurd (not-suc-le-zero l)
term_le (suc n) k f l =
    ⊎_elim (λ e. omega (arith, ap f e)) (λ k<n. omega (arith, term_le n k f k<n)) (eq-or-lt_of_le (le_of_suc-le-suc l))

-- a place at which a sum has something; and one other than d, where the sum has more than its number at d
pub positive_term : (n : ℕ) (f : ℕ → ℕ) → 0 < sum n f → (e : ℕ) × (e < n) × (0 < f e)
unfolding sum
positive_term zero f h = absurd (not-suc-le-zero h)
positive_term (suc n) f h =
    by_cases (dec_le 1 (f n)) (λ l. (n, le_refl (suc n), l))
    (λ l. let (e, b, x) = positive_term n f (omega arith) in (e, le_step b, x))

pub another_term : (n d : ℕ) (f : ℕ → ℕ) → f d < sum n f → (e : ℕ) × (e < n) × (e ≢ d) × (0 < f e)
unfolding sum
another_term zero d f h = absurd (not-suc-le-zero h)
another_term (suc n) d f h =
    by_cases (ℕ_discrete n d)
    (λ same. let (e, b, x) = positive_term n f (omega (arith, ap f same)) in (e, le_step b, λ q. omega arith, x))
    (λ other. by_cases (dec_le 1 (f n)) (λ l. (n, le_refl (suc n), other, l))
    (λ l. let (e, b, d, x) = another_term n d f (omega arith) in (e, le_step b, d, x)))

-- t at one place below n, and nothing elsewhere
pub sum_at : (n i t : ℕ) → i < n → sum n (λ k. cond (eqb k i) t 0) ≡ t
unfolding sum
sum_at zero i t l = absurd (not-suc-le-zero l)
sum_at (suc n) i t l = ⊎_elim at_last (λ i<n. before i<n (sum_at n i t i<n)) (eq-or-lt_of_le (le_of_suc-le-suc l))
  where
    at_last : i ≡ n → sum n (λ k. cond (eqb k i) t 0) + cond (eqb n i) t 0 ≡ t
    at_last e =
        ap₂ ◌+◌ (sum_cong n (λ k k<n. ap (λ (b : Bool). cond b t 0) (ne_eqb k i (λ q. omega arith))) ∙ sum_zero n)
        (ap (λ (b : Bool). cond b t 0) (eq-eqb n i (sym e)))
        ∙ zero-add t

    before : i < n → sum n (λ k. cond (eqb k i) t 0) ≡ t → sum n (λ k. cond (eqb k i) t 0) + cond (eqb n i) t 0 ≡ t
    before i<n ih =
        ap₂ ◌+◌ ih (ap (λ (b : Bool). cond b t 0) (ne_eqb n i (λ q. omega arith))) ∙ add-zero t
