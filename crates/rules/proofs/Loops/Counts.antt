-- How many numbers below n pass a test, and counting along numbers that rise.
-- Assumes nothing.
use Prim.Native.Nat.{ℕ, zero, suc, ◌+◌, ◌*◌, ◌≤◌, ◌<◌}
use native.Mathlib.Nat.{le_refl, le_step, le_of_suc-le, le_of_suc-le-suc, eq-or-lt_of_le, not-suc-le-zero, zero-add, add-zero}
use native.Mathlib.Decide.{ℕ_discrete}
use native.Mathlib.Omega.{arith}
use native.Mathlib.Numerals.{add-one}
use mathlib.Core.Path.{◌≡◌, refl, ap, ap₂, sym, ◌∙◌}
use mathlib.Core.Bool.{Bool, true, false, cond}
use mathlib.Core.Logic.{◌≢◌, ⊎_elim, by_cases}
use lib.Dec.{eqb}
use borrow.Author.Tests.{eqb-true, eq-eqb, ne_eqb}
use Rattle.rules.specs.Loops.{◌and◌, sum, every, some, one_if, count}
use Rattle.rules.proofs.Loops.Logic.{decided}
use Rattle.rules.proofs.Loops.Every.{some_at, some_none, some_before}
use Rattle.rules.proofs.Loops.Sums.{sum_cong, sum_add, sum_at, sum_zero, sum_le, sum_first, sum_runs, term_le}

pub count_cong : (n : ℕ) {t u : ℕ → Bool} → ((k : ℕ) → k < n → t k ≡ u k) → count n t ≡ count n u
unfolding count
count_cong n h = sum_cong n (λ k l. ap (λ (b : Bool). one_if b) (h k l))

-- one number more, as a program's loop counts
pub count_next : (n : ℕ) (t : ℕ → Bool) → count (n + 1) t ≡ count n t + one_if (t n)
unfolding count sum
count_next n t = ap (λ (m : ℕ). count m t) (add-one n)

pub count_all : (n : ℕ) → count n (λ k. true) ≡ n
unfolding count sum
count_all zero = refl
count_all (suc n) = omega (arith, count_all n)

pub count_none : (n : ℕ) → count n (λ k. false) ≡ 0
unfolding count
count_none n = sum_zero n

pub count_most : (n : ℕ) (t : ℕ → Bool) → count n t ≤ n
unfolding count
count_most n t = omega (arith, sum_le n {g = λ k. 1} (λ k _. one (t k)), count_all n)
  where
    one : (b : Bool) → one_if b ≤ 1
    one true = omega arith
    one false = omega arith

-- where none pass, each fails
pub count_no : (n : ℕ) (t : ℕ → Bool) → count n t ≡ 0 → (k : ℕ) → k < n → t k ≡ false
unfolding count
count_no n t e k l = ⊎_elim (λ h. absurd (omega (arith, e, ap (λ (b : Bool). one_if b) h, term_le n k (λ k. one_if (t k)) l))) (λ h. h) (decided (t k))

-- where the first number fails; and over p runs of m numbers
pub count_rest : (n : ℕ) (t : ℕ → Bool) → t 0 ≡ false → count (suc n) t ≡ count n (λ k. t (suc k))
unfolding count
count_rest n t e = sum_first n (λ k. one_if (t k)) ∙ omega (arith, ap (λ (b : Bool). one_if b) e)

pub count_runs : (p m : ℕ) (t : ℕ → Bool) → count (p * m) t ≡ sum p (λ k. count m (λ r. t (k * m + r)))
unfolding count
count_runs p m t = sum_runs p m (λ k. one_if (t k))

-- where of two tests never both hold: those that pass either are those that pass the one and those that pass the other
pub count_apart : (n : ℕ) (either t u : ℕ → Bool) → ((k : ℕ) → one_if (either k) ≡ one_if (t k) + one_if (u k)) → count n either ≡ count n t + count n u
unfolding count
count_apart n either t u h = sum_cong n (λ k l. h k) ∙ sum_add n _ _

-- numbers each of which is above the one before it
pub each_above : (n : ℕ) (f : ℕ → ℕ) → ((k : ℕ) → suc k < n → f k < f (suc k)) → (j k : ℕ) → j < k → k < n → f j < f k
each_above n f rises j zero l b = absurd (not-suc-le-zero l)
each_above n f rises j (suc k) l b =
    ⊎_elim (λ same. rw same (rises k b)) (λ less. omega (arith, rises k b, each_above n f rises j k less (le_of_suc-le b))) (eq-or-lt_of_le (le_of_suc-le-suc l))

-- the numbers below N that are among n rising ones and pass a test: as many as there are places at which they pass it
module _ (N : ℕ) (f : ℕ → ℕ) (t : ℕ → Bool) where
  abbrev among : ℕ → ℕ → Bool
  among n x = some n (λ k. eqb (f k) x)

  one_more : (n x : ℕ) → ((k : ℕ) → k < n → f k < f n) → one_if (among (suc n) x and t x) ≡ one_if (among n x and t x) + one_if (eqb x (f n) and t x)
  unfolding ◌and◌
  one_more n x rises = by_cases (ℕ_discrete x (f n)) here there
    where
      here : x ≡ f n → one_if (among (suc n) x and t x) ≡ one_if (among n x and t x) + one_if (eqb x (f n) and t x)
      here e =
          let new = some_none n (λ k. eqb (f k) x) (λ k l. ne_eqb (f k) x (λ q. omega (arith, rises k l))) in
          let last = some_at (suc n) (λ k. eqb (f k) x) n (le_refl (suc n)) (eq-eqb (f n) x (sym e)) in
          rw last (rw new (rw (eq-eqb x (f n) e) (sym (zero-add _))))

      there : x ≢ f n → one_if (among (suc n) x and t x) ≡ one_if (among n x and t x) + one_if (eqb x (f n) and t x)
      there d =
          rw (ne_eqb x (f n) d)
          (ap (λ (b : Bool). one_if (b and t x)) (some_before n (λ k. eqb (f k) x) (ne_eqb (f n) x (λ q. d (sym q)))) ∙ sym (add-zero _))

  at_last : (n x : ℕ) → one_if (eqb x (f n) and t x) ≡ cond (eqb x (f n)) (one_if (t (f n))) 0
  unfolding ◌and◌
  at_last n x = ⊎_elim (λ e. rw e (ap (λ (y : ℕ). one_if (t y)) (eqb-true x (f n) e))) (λ e. rw e refl) (decided (eqb x (f n)))

  pub count_along : (n : ℕ) → ((k : ℕ) → k < n → f k < N) → ((j k : ℕ) → j < k → k < n → f j < f k)
      → count N (λ x. among n x and t x) ≡ count n (λ k. t (f k))
  unfolding count sum some every ◌and◌
  count_along zero below rises = sum_zero N
  count_along (suc n) below rises =
      count_apart N (λ x. among (suc n) x and t x) (λ x. among n x and t x) (λ x. eqb x (f n) and t x)
      (λ x. one_more n x (λ k l. rises k n l (le_refl (suc n))))
      ∙ ap₂ ◌+◌ (count_along n (λ k l. below k (le_step l)) (λ j k l b. rises j k l (le_step b)))
      (sum_cong N (λ x l. at_last n x) ∙ sum_at N (f n) _ (below n (le_refl (suc n))))
