-- Tests joined by `and` and `or`: what the whole tells of its parts, and the other way round.
-- Assumes nothing.
use Prim.Native.Nat.{ℕ, ◌≤◌}
use mathlib.Core.Path.{◌≡◌, refl, ap, ap₂, sym, ◌∙◌}
use mathlib.Core.Logic.{◌⊎◌, inl, inr}
use mathlib.Core.Bool.{Bool, true, false, not, true≢false, false≢true}
use borrow.Author.Tests.{leb-true, not-true, not-false}
pub use Rattle.history.proofs.Sets.{same}
use Rattle.rules.specs.Loops.{◌and◌, ◌or◌, between}

-- a Bool is one or the other
pub decided : (b : Bool) → (b ≡ true) ⊎ (b ≡ false)
decided true = inl refl
decided false = inr refl

-- a test that is asked with a call, as code does: what the answer tells of it
pub holds : {answer test : Bool} → answer ≡ test → not answer ≡ false → test ≡ true
holds e l = sym e ∙ not-false _ l

pub fails : {answer test : Bool} → answer ≡ test → not answer ≡ true → test ≡ false
fails e t = sym e ∙ not-true _ t

pub and_left : (a b : Bool) → a and b ≡ true → a ≡ true
unfolding ◌and◌
and_left true b e = refl
and_left false b e = e

pub and_right : (a b : Bool) → a and b ≡ true → b ≡ true
unfolding ◌and◌
and_right true b e = e
and_right false b e = absurd (false≢true e)

-- a number in a range
pub in_range : (low high x : ℕ) → between low high x ≡ true → (low ≤ x) × (x ≤ high)
unfolding between
in_range low high x e = (leb-true _ _ (and_left _ _ e), leb-true _ _ (and_right _ _ e))

pub and_both : {a b : Bool} → a ≡ true → b ≡ true → a and b ≡ true
unfolding ◌and◌
and_both p q = ap₂ ◌and◌ p q

pub and_true : (a : Bool) → a and true ≡ a
unfolding ◌and◌
and_true true = refl
and_true false = refl

pub and_false : (a : Bool) → a and false ≡ false
unfolding ◌and◌
and_false true = refl
and_false false = refl

pub and_left_holds : {a : Bool} → a ≡ true → (b : Bool) → b ≡ a and b
unfolding ◌and◌
and_left_holds e b = ap (λ (a : Bool). a and b) (sym e)

-- one that fails is enough
pub and_left_fails : {a : Bool} → a ≡ false → (b : Bool) → a and b ≡ false
unfolding ◌and◌
and_left_fails e b = ap (λ (a : Bool). a and b) e

pub and_right_fails : (a : Bool) {b : Bool} → b ≡ false → a and b ≡ false
and_right_fails a e = ap (λ (b : Bool). a and b) e ∙ and_false a

pub and_swap : (a b c : Bool) → a and b and c ≡ b and a and c
unfolding ◌and◌
and_swap true b c = refl
and_swap false b c = sym (and_false b)

pub and_comm : (a b : Bool) → a and b ≡ b and a
unfolding ◌and◌
and_comm true b = sym (and_true b)
and_comm false b = sym (and_false b)

pub and_last : (a b c : Bool) → a and b and c ≡ c and a and b
and_last a b c = ap (λ (x : Bool). a and x) (and_comm b c) ∙ and_swap a c b

pub and_fails : (a b : Bool) → a and b ≡ false → (a ≡ false) ⊎ (b ≡ false)
unfolding ◌and◌
and_fails true b e = inr e
and_fails false b e = inl refl

pub or_left : (a b : Bool) → a or b ≡ false → a ≡ false
unfolding ◌or◌
or_left true b e = e
or_left false b e = refl

pub or_right : (a b : Bool) → a or b ≡ false → b ≡ false
unfolding ◌or◌
or_right true b e = absurd (true≢false e)
or_right false b e = e

pub or_first : {a : Bool} → a ≡ true → (b : Bool) → a or b ≡ true
unfolding ◌or◌
or_first e b = ap (λ (a : Bool). a or b) e

pub or_second : (a : Bool) {b : Bool} → b ≡ true → a or b ≡ true
unfolding ◌or◌
or_second true e = refl
or_second false e = e

pub or_left_fails : {a : Bool} → a ≡ false → (b : Bool) → b ≡ a or b
unfolding ◌or◌
or_left_fails e b = ap (λ (a : Bool). a or b) (sym e)

-- the second of two, where the first fails
pub or_other : (a b : Bool) → a ≡ false → a or b ≡ true → b ≡ true
unfolding ◌or◌
or_other true b e d = absurd (true≢false e)
or_other false b e d = d

pub or_neither : {a b : Bool} → a ≡ false → b ≡ false → a or b ≡ false
unfolding ◌or◌
or_neither p q = ap₂ ◌or◌ p q
