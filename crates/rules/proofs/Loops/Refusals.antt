-- Lines of a table of refusals: what an answer tells of each line, what it is where none is met, and what a call then leaves.
-- Assumes nothing.
use Prim.Native.Nat.{ℕ, zero, suc, ◌+◌, ◌≤◌, ◌<◌}
use native.Mathlib.Nat.{le_refl, le_step, not-suc-le-zero, le_of_suc-le-suc, eq-or-lt_of_le, suc-ne-zero}
use native.Mathlib.Omega.{arith}
use native.Mathlib.Numerals.{add-one}
use mathlib.Core.Path.{◌≡◌, refl, ap, ap₂, sym, ◌∙◌}
use mathlib.Core.Logic.{⊎_elim, ◌≢◌}
use mathlib.Core.Bool.{Bool, true, false, cond, not}
use borrow.Author.Tests.{eq-eqb, ne_eqb, not-false}
use Rattle.rules.specs.Refusals.{◌when◌, ◌or_else◌, first, done, refused, value, reply}

-- a line of the table that is not met, and the lines after it
pub when_done : (number : ℕ) (c : Bool) → suc number when c ≡ 0 → c ≡ false
unfolding ◌when◌
when_done number true e = absurd (suc-ne-zero number e)
when_done number false e = refl

pub when_not_done : (number : ℕ) (c : Bool) → suc number when not c ≡ 0 → c ≡ true
when_not_done number c e = not-false c (when_done number (not c) e)

-- a refusal that comes first stands
pub or_else_stands : (a b : ℕ) → a ≢ 0 → a or_else b ≡ a
unfolding ◌or_else◌
or_else_stands zero b d = absurd (d refl)
or_else_stands (suc a) b d = refl

-- so the first refusal is the own one, whatever the lines after it say
pub own_refusal : {m own : ℕ} → m ≡ own → m ≢ 0 → (rest : ℕ) → m ≡ own or_else rest
own_refusal {m} e d rest = sym (rw (← e) (or_else_stands m rest d))

-- where the lines before it are not met, the rest of the table answers
pub or_else_passes : {a : ℕ} → a ≡ 0 → (b : ℕ) → a or_else b ≡ b
unfolding ◌or_else◌
or_else_passes e b = ap (λ (a : ℕ). a or_else b) e

pub or_else_first : (a b : ℕ) → a or_else b ≡ 0 → a ≡ 0
unfolding ◌or_else◌
or_else_first zero b e = refl
or_else_first (suc a) b e = e

pub or_else_rest : (a b : ℕ) → a or_else b ≡ 0 → b ≡ 0
unfolding ◌or_else◌
or_else_rest zero b e = e
or_else_rest (suc a) b e = absurd (suc-ne-zero a e)

-- what comes after a line counts only where the line is not met
pub or_else_under : (a : ℕ) {b c : ℕ} → (a ≡ 0 → b ≡ c) → a or_else b ≡ a or_else c
unfolding ◌or_else◌
or_else_under zero h = h refl
or_else_under (suc a) h = refl

pub or_else_none : (a : ℕ) → a or_else 0 ≡ a
unfolding ◌or_else◌
or_else_none zero = refl
or_else_none (suc a) = refl

pub not_met : (number : ℕ) {c : Bool} → c ≡ false → number when c ≡ 0
unfolding ◌when◌
not_met number e = ap (λ (c : Bool). number when c) e

pub none_met : {a b : ℕ} → a ≡ 0 → b ≡ 0 → a or_else b ≡ 0
unfolding ◌or_else◌
none_met e d = ap₂ ◌or_else◌ e d

pub first_at : (n : ℕ) (f : ℕ → ℕ) → first n f ≡ 0 → (k : ℕ) → k < n → f k ≡ 0
unfolding first
first_at zero f e k l = absurd (not-suc-le-zero l)
first_at (suc n) f e k l =
    ⊎_elim (λ q. ap f q ∙ or_else_rest (first n f) (f n) e) (first_at n f (or_else_first (first n f) (f n) e) k)
    (eq-or-lt_of_le (le_of_suc-le-suc l))

pub first_none : (n : ℕ) {f : ℕ → ℕ} → ((k : ℕ) → k < n → f k ≡ 0) → first n f ≡ 0
unfolding first ◌or_else◌
first_none zero h = refl
first_none (suc n) h = ap₂ ◌or_else◌ (first_none n (λ k l. h k (le_step l))) (h n (le_refl (suc n)))

-- one number more, as a program's loop counts, and the first that is refused
pub first_next : (k : ℕ) (f : ℕ → ℕ) → first k f ≡ 0 → f k ≡ 0 → first (k + 1) f ≡ 0
unfolding first
first_next k f e d = ap (λ (n : ℕ). first n f) (add-one k) ∙ none_met e d

pub first_stops : (n : ℕ) (f : ℕ → ℕ) (k : ℕ) → k < n → first k f ≡ 0 → f k ≢ 0 → first n f ≡ f k
unfolding first
first_stops zero f k l e d = absurd (not-suc-le-zero l)
first_stops (suc n) f k l e d =
    ⊎_elim (λ q. or_else_passes (ap (λ (j : ℕ). first j f) (sym q) ∙ e) (f n) ∙ ap f (sym q))
    (λ m. let own = first_stops n f k m e d in or_else_stands (first n f) (f n) (λ z. d (sym own ∙ z)) ∙ own)
    (eq-or-lt_of_le (le_of_suc-le-suc l))

pub first_cong : (n : ℕ) {f g : ℕ → ℕ} → ((k : ℕ) → k < n → f k ≡ g k) → first n f ≡ first n g
unfolding first
first_cong zero h = refl
first_cong (suc n) h = ap₂ ◌or_else◌ (first_cong n (λ k l. h k (le_step l))) (h n (le_refl (suc n)))

-- what holds of 0 and of each line's number holds of the answer
pub when_either : (P : ℕ → Type 0) (number : ℕ) → P number → P 0 → (c : Bool) → P (number when c)
unfolding ◌when◌
when_either P number met done true = met
when_either P number met done false = done

pub or_else_either : (P : ℕ → Type 0) (a b : ℕ) → P a → P b → P (a or_else b)
unfolding ◌or_else◌
or_else_either P zero b l m = m
or_else_either P (suc a) b l m = l

pub first_either : (P : ℕ → Type 0) (n : ℕ) {f : ℕ → ℕ} → P 0 → ((k : ℕ) → k < n → P (f k)) → P (first n f)
unfolding first
first_either P zero done h = done
first_either P (suc n) {f} done h = or_else_either P (first n f) (f n) (first_either P n done (λ k l. h k (le_step l))) (h n (le_refl (suc n)))

-- so no answer is above the highest of them
pub when_most : {most : ℕ} (number : ℕ) → number ≤ most → (c : Bool) → (number when c) ≤ most
when_most {most} number l c = when_either (λ x. x ≤ most) number l (omega arith) c

pub or_else_most : {most : ℕ} (a b : ℕ) → a ≤ most → b ≤ most → (a or_else b) ≤ most
or_else_most {most} = or_else_either (λ x. x ≤ most)

pub first_most : {most : ℕ} (n : ℕ) (f : ℕ → ℕ) → ((k : ℕ) → f k ≤ most) → first n f ≤ most
first_most {most} n f h = first_either (λ x. x ≤ most) n (omega arith) (λ k _. h k)

-- what a call leaves where it is answered 0, and where it is refused
pub when_accepted : {A : Type 0} (answer : ℕ) (after before : A) → answer ≡ 0 → done answer after before ≡ after
unfolding done
when_accepted answer after before e = ap (λ (b : Bool). cond b after before) (eq-eqb answer 0 e)

pub when_refused : {A : Type 0} (answer : ℕ) (after before : A) → answer ≢ 0 → done answer after before ≡ before
unfolding done
when_refused answer after before h = ap (λ (b : Bool). cond b after before) (ne_eqb answer 0 h)

-- what a query replies
pub reply_refused : (answer x : ℕ) → answer ≢ 0 → refused answer ≡ reply answer x
unfolding reply
reply_refused answer x d = sym (when_refused _ _ _ d)

pub reply_value : (answer x : ℕ) → answer ≡ 0 → value x ≡ reply answer x
unfolding reply
reply_value answer x e = sym (when_accepted _ _ _ e)
