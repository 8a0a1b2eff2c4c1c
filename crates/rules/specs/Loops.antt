-- Tests, and loops over the numbers below n as a program's loop goes: the last turn is added to what the turns before it gave.
-- Assumes nothing.
use Rattle.std.specs.Prelude.{ℕ, zero, suc, ◌+◌, Bool, true, false, cond, not, List, [], ◌∷◌, ◌++◌, leb}

infixr 40 ◌and◌
infixr 40 ◌or◌
unfoldable pub ◌and◌ : Bool → Bool → Bool
true and b = b
false and b = false

unfoldable pub ◌or◌ : Bool → Bool → Bool
true or b = true
false or b = b

unfoldable pub between : ℕ → ℕ → ℕ → Bool
between low high x = leb low x and leb x high

-- f 0 + .. + f (n - 1)
unfoldable pub sum : ℕ → (ℕ → ℕ) → ℕ
sum zero f = 0
sum (suc n) f = sum n f + f n

-- does the test hold at every number below n; at some number below n
unfoldable pub every : ℕ → (ℕ → Bool) → Bool
every zero t = true
every (suc n) t = every n t and t n

unfoldable pub some : ℕ → (ℕ → Bool) → Bool
some n t = not (every n (λ k. not (t k)))

-- how many numbers below n pass the test
abbrev pub one_if : Bool → ℕ
one_if b = cond b 1 0

unfoldable pub count : ℕ → (ℕ → Bool) → ℕ
count n t = sum n (λ k. one_if (t k))

-- the first number below n at which the test holds, or n
unfoldable pub index : ℕ → (ℕ → Bool) → ℕ
index zero t = zero
index (suc n) t = cond (t zero) zero (suc (index n (λ k. t (suc k))))

-- f 0 ++ .. ++ f (n - 1)
unfoldable pub flat : {A : Type 0} → ℕ → (ℕ → List A) → List A
flat zero f = []
flat (suc n) f = flat n f ++ f n

-- the list of f 0 .. f (n - 1)
unfoldable pub list : {A : Type 0} → ℕ → (ℕ → A) → List A
list n f = flat n (λ k. f k ∷ [])
