-- Refusals by number, the first in table order. 0 is "done".
-- Assumes nothing.
use Rattle.std.specs.Prelude.{ℕ, zero, suc, Bool, true, false, cond, eqb}

infix 35 ◌when◌
infixr 30 ◌or_else◌
-- a line of the table: this number under this condition
unfoldable pub ◌when◌ : ℕ → Bool → ℕ
number when true = number
number when false = 0

-- the first refusal, or what comes after it in the table
unfoldable pub ◌or_else◌ : ℕ → ℕ → ℕ
zero or_else rest = rest
suc number or_else rest = suc number

-- the first refusal among those of 0 .. n - 1
unfoldable pub first : ℕ → (ℕ → ℕ) → ℕ
first zero f = 0
first (suc n) f = first n f or_else f n

-- what a call leaves or hands out: the first where it is answered 0, the second where it is refused
unfoldable pub done : {A : Type 0} → ℕ → A → A → A
done answer after before = cond (eqb answer 0) after before

-- the answer of a query: the value, or the refusal's number alone
pub data Reply : Type 0 where
  refused : ℕ → Reply
  value : ℕ → Reply

unfoldable pub reply : ℕ → ℕ → Reply
reply answer x = done answer (value x) (refused answer)
