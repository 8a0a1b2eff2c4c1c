-- At least is a preorder, and later a strict order.
-- Assumes nothing.
use Prim.Native.Nat.{ℕ, ◌≤◌, ◌<◌}
use native.Mathlib.Nat.{le_refl, le_trans, lt_of_le_of_lt}
use native.Mathlib.Numerals.{lt_of_le_of_ne}
use native.Mathlib.Omega.{arith}
use mathlib.Core.Path.{◌≡◌, ap, sym}
use mathlib.Core.Logic.{⊎_elim}
use mathlib.Core.Bool.{true, false, not}
use borrow.Author.Tests.{leb-true, eqb-true, eqb-false, le-leb, eq-eqb, not-true}
use Rattle.rules.specs.Rows.{at_least, alike, later}
use Rattle.rules.proofs.Loops.Logic.{decided, and_left, and_right, and_both}
use Rattle.rules.proofs.Loops.Every.{every_at, every_all, every_fails}

module _ (m : ℕ) where
  pub at_least_at : (f g : ℕ → ℕ) → at_least m f g ≡ true → (c : ℕ) → c < m → g c ≤ f c
  unfolding at_least
  at_least_at f g e c l = leb-true _ _ (every_at m _ e c l)

  pub at_least_all : (f g : ℕ → ℕ) → ((c : ℕ) → c < m → g c ≤ f c) → at_least m f g ≡ true
  unfolding at_least
  at_least_all f g h = every_all m (λ c l. le-leb _ _ (h c l))

  -- at least is a preorder: reflexive and transitive
  pub at_least_itself : (f : ℕ → ℕ) → at_least m f f ≡ true
  at_least_itself f = at_least_all f f (λ c l. le_refl (f c))

  pub at_least_transitive : (f g h : ℕ → ℕ) → at_least m f g ≡ true → at_least m g h ≡ true → at_least m f h ≡ true
  at_least_transitive f g h e d = at_least_all f h (λ c l. le_trans (at_least_at g h d c l) (at_least_at f g e c l))

  pub alike_at : (f g : ℕ → ℕ) → alike m f g ≡ true → (c : ℕ) → c < m → f c ≡ g c
  unfolding alike
  alike_at f g e c l = eqb-true _ _ (every_at m _ e c l)

  pub alike_all : (f g : ℕ → ℕ) → ((c : ℕ) → c < m → f c ≡ g c) → alike m f g ≡ true
  unfolding alike
  alike_all f g h = every_all m (λ c l. eq-eqb _ _ (h c l))

  -- a place at which rows that are not alike differ, and the other way round
  pub differ_at : (f g : ℕ → ℕ) → alike m f g ≡ false → (c : ℕ) × (c < m) × (f c ≡ g c → ⊥)
  unfolding alike
  differ_at f g e = let w = every_fails m _ e in (w.0, w.1, eqb-false _ _ w.2)

  pub differ : (f g : ℕ → ℕ) (c : ℕ) → c < m → (f c ≡ g c → ⊥) → alike m f g ≡ false
  differ f g c l h = ⊎_elim (λ e. absurd (h (alike_at f g e c l))) (λ e. e) (decided (alike m f g))

  -- later: at least the other everywhere, and above it somewhere
  pub later_at_lem : (f g : ℕ → ℕ) → later m f g ≡ true
      → ((c : ℕ) → c < m → g c ≤ f c) × ((c : ℕ) × (c < m) × (g c < f c))
  unfolding later
  later_at_lem f g e =
      let above = at_least_at f g (and_left _ _ e) in
      let w = differ_at f g (not-true _ (and_right _ _ e)) in
      (above, (w.0, w.1, lt_of_le_of_ne (above w.0 w.1) (λ q. w.2 (sym q))))

  pub later_all : (f g : ℕ → ℕ) → ((c : ℕ) → c < m → g c ≤ f c) → (c : ℕ) → c < m → g c < f c → later m f g ≡ true
  unfolding later
  later_all f g h c l d = and_both (at_least_all f g h) (ap not (differ f g c l (λ q. omega arith)))

  -- a strict order: irreflexive and transitive, so asymmetric
  pub later_irreflexive : (f : ℕ → ℕ) → later m f f ≡ true → ⊥
  later_irreflexive f e = let w = (later_at_lem f f e).1 in omega (arith, w.2)

  pub later_transitive : (f g h : ℕ → ℕ) → later m f g ≡ true → later m g h ≡ true → later m f h ≡ true
  later_transitive f g h e d =
      let w = (later_at_lem f g e).1 in
      later_all f h (λ c l. le_trans ((later_at_lem g h d).0 c l) ((later_at_lem f g e).0 c l)) w.0 w.1
      (lt_of_le_of_lt ((later_at_lem g h d).0 w.0 w.1) w.2)

  pub later_asymmetric : (f g : ℕ → ℕ) → later m f g ≡ true → later m g f ≡ true → ⊥
  later_asymmetric f g e d = later_irreflexive f (later_transitive f g f e d)
