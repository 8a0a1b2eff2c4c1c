-- What a test over the numbers below n tells: at every number, at some number, and the first at which it holds.
-- Assumes nothing.
use Prim.Native.Nat.{ℕ, zero, suc, ◌+◌, ◌≤◌, ◌<◌, suc-le-suc}
use native.Mathlib.Omega.{arith}
use native.Mathlib.Nat.{le_refl, le_step, not-suc-le-zero, le_of_suc-le-suc, eq-or-lt_of_le, suc-ne-zero, suc_inj, zero-lt-suc}
use native.Mathlib.Numerals.{add-one}
use mathlib.Core.Path.{◌≡◌, refl, ap, ap₂, sym, ◌∙◌}
use mathlib.Core.Logic.{⊎_elim}
use mathlib.Core.Bool.{Bool, true, false, cond, not, true≢false}
use borrow.Author.Tests.{not-true, not-false}
use Rattle.rules.specs.Loops.{◌and◌, every, some, index}
use Rattle.rules.proofs.Loops.Logic.{decided, and_left, and_right, and_both, and_true}

pub every_at : (n : ℕ) (t : ℕ → Bool) → every n t ≡ true → (k : ℕ) → k < n → t k ≡ true
unfolding every ◌and◌
every_at zero t e k l = absurd (not-suc-le-zero l)
every_at (suc n) t e k l =
    ⊎_elim (λ q. ap t q ∙ and_right (every n t) (t n) e) (every_at n t (and_left (every n t) (t n) e) k)
    (eq-or-lt_of_le (le_of_suc-le-suc l))

pub every_all : (n : ℕ) {t : ℕ → Bool} → ((k : ℕ) → k < n → t k ≡ true) → every n t ≡ true
unfolding every ◌and◌
every_all zero h = refl
every_all (suc n) h = and_both (every_all n (λ k l. h k (le_step l))) (h n (le_refl (suc n)))

pub every_cong : (n : ℕ) {t u : ℕ → Bool} → ((k : ℕ) → k < n → t k ≡ u k) → every n t ≡ every n u
unfolding every ◌and◌
every_cong zero h = refl
every_cong (suc n) h = ap₂ ◌and◌ (every_cong n (λ k l. h k (le_step l))) (h n (le_refl (suc n)))

-- where it does not hold at every number below n, there is one at which it fails
pub every_fails : (n : ℕ) (t : ℕ → Bool) → every n t ≡ false → (k : ℕ) × (k < n) × (t k ≡ false)
unfolding every ◌and◌
every_fails zero t e = absurd (true≢false e)
every_fails (suc n) t e = ⊎_elim here (λ f. below (every_fails n t f)) (decided (every n t))
  where
    here : every n t ≡ true → (k : ℕ) × (k < suc n) × (t k ≡ false)
    here h = (n, le_refl (suc n), sym (ap (λ (b : Bool). b and t n) h) ∙ e)

    below : (k : ℕ) × (k < n) × (t k ≡ false) → (k : ℕ) × (k < suc n) × (t k ≡ false)
    below w = (w.0, le_step w.1, w.2)

-- one number more, as a program's loop counts, and the first at which it fails
pub every_next : (k : ℕ) (t : ℕ → Bool) → every k t ≡ true → t k ≡ true → every (k + 1) t ≡ true
unfolding every
every_next k t e d = ap (λ (n : ℕ). every n t) (add-one k) ∙ and_both e d

pub every_more : (k : ℕ) (t : ℕ → Bool) → t k ≡ true → every (k + 1) t ≡ every k t
unfolding every
every_more k t e = ap (λ (n : ℕ). every n t) (add-one k) ∙ ap (λ (u : Bool). every k t and u) e ∙ and_true (every k t)

pub every_stops : (n : ℕ) (t : ℕ → Bool) (k : ℕ) → k < n → t k ≡ false → every n t ≡ false
every_stops n t k l e = ⊎_elim (λ a. absurd (true≢false (sym (every_at n t a k l) ∙ e))) (λ a. a) (decided (every n t))

pub some_at : (n : ℕ) (t : ℕ → Bool) (k : ℕ) → k < n → t k ≡ true → some n t ≡ true
unfolding some
some_at n t k l e =
    ⊎_elim (λ a. absurd (true≢false (sym e ∙ not-true (t k) (every_at n _ a k l)))) (λ a. ap not a) (decided (every n (λ k. not (t k))))

-- where it holds at some number below n, there is one at which it holds
pub some_where : (n : ℕ) (t : ℕ → Bool) → some n t ≡ true → (k : ℕ) × (k < n) × (t k ≡ true)
unfolding some
some_where n t e = let (k, l, d) = every_fails n _ (not-true _ e) in (k, l, not-false _ d)

pub some_none : (n : ℕ) (t : ℕ → Bool) → ((k : ℕ) → k < n → t k ≡ false) → some n t ≡ false
unfolding some
some_none n t h = ap not (every_all n (λ k l. ap not (h k l)))

pub some_before : (n : ℕ) (t : ℕ → Bool) → t n ≡ false → some (suc n) t ≡ some n t
unfolding some every
some_before n t e = ap not (ap (λ (b : Bool). every n (λ k. not (t k)) and not b) e ∙ and_true _)

-- index k t is k where the test fails at every number below k: one number more, and the first at which it holds
index_past : (n m k : ℕ) (t : ℕ → Bool) → index (suc k) t ≡ suc k
    → (index k (λ j. t (suc j)) ≡ k → index n (λ j. t (suc j)) ≡ m) → index (suc n) t ≡ suc m
unfolding index
index_past n m k t e next = go (t 0) e
  where
    go : (b : Bool) → cond b 0 (suc (index k (λ j. t (suc j)))) ≡ suc k → cond b 0 (suc (index n (λ j. t (suc j)))) ≡ suc m
    go true d = absurd (suc-ne-zero k (sym d))
    go false d = ap suc (next (suc_inj d))

index_suc : (k : ℕ) (t : ℕ → Bool) → index k t ≡ k → t k ≡ false → index (suc k) t ≡ suc k
unfolding index
index_suc zero t e d = ap (λ (b : Bool). cond b 0 1) d
index_suc (suc k) t e d = index_past (suc k) (suc k) k t e (λ f. index_suc k (λ j. t (suc j)) f d)

pub index_next : (k : ℕ) (t : ℕ → Bool) → index k t ≡ k → t k ≡ false → index (k + 1) t ≡ k + 1
index_next k t e d = rw (add-one k) (index_suc k t e d)

pub index_stops : (n : ℕ) (t : ℕ → Bool) (k : ℕ) → k < n → index k t ≡ k → t k ≡ true → index n t ≡ k
unfolding index
index_stops zero t k l e d = absurd (not-suc-le-zero l)
index_stops (suc n) t zero l e d = ap (λ (b : Bool). cond b 0 (suc (index n (λ j. t (suc j))))) d
index_stops (suc n) t (suc k) l e d = index_past n k k t e (λ f. index_stops n (λ j. t (suc j)) k (le_of_suc-le-suc l) f d)

index_none : (k : ℕ) (t : ℕ → Bool) → ((j : ℕ) → j < k → t j ≡ false) → index k t ≡ k
unfolding index
index_none zero t h = refl
index_none (suc k) t h = index_suc k t (index_none k t (λ j l. h j (le_step l))) (h k (le_refl (suc k)))

-- the first number at which the test holds
pub index_first : (n : ℕ) (t : ℕ → Bool) (k : ℕ) → k < n → t k ≡ true → ((j : ℕ) → j < k → t j ≡ false) → index n t ≡ k
index_first n t k l e h = index_stops n t k l (index_none k t h) e

pub index_most : (n : ℕ) (t : ℕ → Bool) → index n t ≤ n
unfolding index
index_most zero t = le_refl 0
index_most (suc n) t = go (t 0) (index_most n (λ k. t (suc k)))
  where
    go : (b : Bool) → index n (λ k. t (suc k)) ≤ n → cond b 0 (suc (index n (λ k. t (suc k)))) ≤ suc n
    go true l = omega arith
    go false l = suc-le-suc l

pub index_cong : (n : ℕ) (t u : ℕ → Bool) → ((k : ℕ) → k < n → t k ≡ u k) → index n t ≡ index n u
unfolding index
index_cong zero t u h = refl
index_cong (suc n) t u h =
    ap₂ (λ (b : Bool) (x : ℕ). cond b 0 (suc x)) (h 0 (zero-lt-suc n)) (index_cong n _ _ (λ k l. h (suc k) (suc-le-suc l)))

-- where there is such a number, the test holds there
pub index_holds : (n : ℕ) (t : ℕ → Bool) → index n t < n → t (index n t) ≡ true
unfolding index
index_holds zero t l = absurd (not-suc-le-zero l)
index_holds (suc n) t l = go (t 0) refl (index_holds n (λ k. t (suc k))) l
  where
    go : (b : Bool) → t 0 ≡ b → (index n (λ k. t (suc k)) < n → t (suc (index n (λ k. t (suc k)))) ≡ true)
        → cond b 0 (suc (index n (λ k. t (suc k)))) < suc n → t (cond b 0 (suc (index n (λ k. t (suc k))))) ≡ true
    go true e later l = e
    go false e later l = later (le_of_suc-le-suc l)
