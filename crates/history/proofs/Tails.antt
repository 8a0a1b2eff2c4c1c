-- Two lists that get one element in front, or not: every fact is by the cases of the two tests.
-- Assumes nothing.
use native.Mathlib.Omega.{arith}
use mathlib.Core.Path.{◌≡◌, refl, ap}
use mathlib.Core.Logic.{◌⊎◌, inl, inr}
use mathlib.Core.Bool.{Bool, true, false, cond, ◌||◌, false≢true}
use mathlib.Core.List.{List, [], ◌∷◌, tail-eq_of_cons-eq}
use lib.ListN.{length, length-append}
use Rattle.history.proofs.Laws.{Ends}

module _ {A : Type 0} (a : A) where
  -- the tail gets it only where it is the whole list
  pub ends_put : {k l : List A} (s t : Bool) → (s ≡ true → t ≡ true) → (s ≡ true → k ≡ l) → Ends k l
      → Ends (cond s (a ∷ k) k) (cond t (a ∷ l) l)
  ends_put true true f g p = ([], ap (λ r. a ∷ r) (g refl))
  ends_put true false f g p = absurd (false≢true (f refl))
  ends_put false true f g p = (a ∷ p.0, ap (λ r. a ∷ r) p.1)
  ends_put false false f g p = p

  pub either_put : {k l u : List A} (s t : Bool) → (s ≡ true → k ≡ u) → (t ≡ true → l ≡ u) → (k ≡ u) ⊎ (l ≡ u)
      → (cond s (a ∷ k) k ≡ cond (s || t) (a ∷ u) u) ⊎ (cond t (a ∷ l) l ≡ cond (s || t) (a ∷ u) u)
  either_put true t f g p = inl (ap (λ r. a ∷ r) (f refl))
  either_put false true f g p = inr (ap (λ r. a ∷ r) (g refl))
  either_put false false f g p = p

  -- equal with it: both got it or neither, and they were equal before
  pub put_back : {k l : List A} (s t : Bool) → (s ≡ true → t ≡ true) → Ends k l → cond s (a ∷ k) k ≡ cond t (a ∷ l) l
      → (t ≡ true → s ≡ true) × (k ≡ l)
  put_back true true f p q = (λ _. refl, tail-eq_of_cons-eq q)
  put_back true false f p q = absurd (false≢true (f refl))
  put_back false true f p q = absurd (omega (arith, simp length-append at (ap length p.1), ap length q))
  put_back false false f p q = (λ t. t, q)
