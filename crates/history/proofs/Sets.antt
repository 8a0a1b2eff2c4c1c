-- Sets of acts, compared by their members: each fact is by the cases of a test.
-- Assumes nothing.
use mathlib.Core.Path.{◌≡◌, refl, sym, fun_ext}
use mathlib.Core.Logic.{◌⊎◌, inl, inr, ⊎_elim}
use mathlib.Core.Bool.{Bool, true, false, cond, ◌||◌, false≢true, or-true}
use Rattle.history.specs.Ledger.{Acts, gained}
use Rattle.history.specs.Guarantees.{◌⊆◌}

-- `joined new S` is `gained` of a single place and S: `right` speaks of both
pub left : (S T : Acts) → S ⊆ gained S T
left S T q p = rw p

pub right : (S T : Acts) → T ⊆ gained S T
right S T q p = rw p (or-true (S q))

pub or_split : (a : Bool) {b : Bool} → (a || b) ≡ true → (a ≡ true) ⊎ (b ≡ true)
or_split true p = inl refl
or_split false p = inr p

pub same : (a b : Bool) → (a ≡ true → b ≡ true) → (b ≡ true → a ≡ true) → a ≡ b
same true b f g = sym (f refl)
same false true f g = g refl
same false false f g = refl

pub equal_sets : {S T : Acts} → S ⊆ T → T ⊆ S → S ≡ T
equal_sets st ts = fun_ext (λ q. same _ _ (st q) (ts q))

pub gained_wider : {S T : Acts} → S ⊆ T → gained S T ≡ T
gained_wider {S} {T} st = equal_sets (λ q p. ⊎_elim (st q) (λ t. t) (or_split (S q) p)) (right S T)

pub fails : (b : Bool) → (b ≡ true → ⊥) → b ≡ false
fails b f = same b false (λ p. absurd (f p)) (λ p. absurd (false≢true p))

-- what holds of either arm of a test holds of what the test picks; `arms` is for two tests that are one
pub cases : {X : Type 0} (P : X → Type 0) (b : Bool) {x y : X} → (b ≡ true → P x) → (b ≡ false → P y) → P (cond b x y)
cases P true f g = f refl
cases P false f g = g refl

pub arms : {X Y : Type 0} (P : X → Y → Type 0) (b : Bool) {x x' : X} {y y' : Y} → P x y → P x' y' → P (cond b x x') (cond b y y')
arms P true p p' = p
arms P false p p' = p'
