-- What a desk has after one call more, read off the test of the moment and the test of the desk.
-- Assumes nothing.
use Prim.Native.Nat.{ℕ, suc, ◌≤◌, ◌<◌}
use native.Mathlib.Nat.{le_refl}
use native.Mathlib.Omega.{arith}
use mathlib.Core.Path.{◌≡◌, refl, ◌∙◌}
use mathlib.Core.Bool.{true, cond}
use mathlib.Core.List.{List, [], ◌∷◌, ◌++◌}
use lib.ListN.{length, length-append}
use lib.Dec.{leb, eqb}
use borrow.Author.Tests.{le-leb, lt-leb, eq-eqb, eqb-true, eqb-false}
use Rattle.history.specs.Replica.{Replica, Call, act, take, caller}
use Rattle.history.specs.Books.{at, called, books}
use Rattle.history.specs.Ledger.{Acts, joined, lone, held_after, ledger}
use Rattle.history.specs.Guarantees.{◌⊆◌}
use Rattle.history.proofs.Sets.{left, right, cases, arms}

abbrev pub History : Replica → Type 0
History R = List (Call R.Act)

module _ (R : Replica) (start : R.State) where
  -- the set that desk i holds after h
  abbrev pub latest : History R → ℕ → Acts
  latest h i = ledger R start h (length h) i

  -- the lone dispatcher, with what desk d holds after h, accepts the act
  abbrev pub Fits : History R → ℕ → R.Act → Type 0
  Fits h d a = R.act_answer d a (lone R start h (latest h d)) ≡ 0

  -- what holds of a desk's state and set before c, and of what c gives, holds at every moment after c
  pub after : (P : R.State → Acts → Type 0) (c : Call R.Act) (h : History R) (m i : ℕ)
      → P (books R start h m i) (ledger R start h m i) → P (books R start h (length h) i) (latest h i)
      → P (called R h c (books R start h)) (held_after R start h c (ledger R start h))
      → P (books R start (c ∷ h) m i) (ledger R start (c ∷ h) m i)
  unfolding books ledger at
  after P c h m i old kept new = arms P (leb m (length h)) old (arms P (eqb i (caller c)) new kept)

  -- the states and the sets of earlier moments; the sets of later ones, and of this one
  module _ (c : Call R.Act) (h : History R) where
    pub past_state : (m i : ℕ) → m ≤ length h → books R start (c ∷ h) m i ≡ books R start h m i
    unfolding books at
    past_state m i l = rw (le-leb m (length h) l)

    pub past : (m i : ℕ) → m ≤ length h → ledger R start (c ∷ h) m i ≡ ledger R start h m i
    unfolding ledger at
    past m i l = rw (le-leb m (length h) l)

    pub late : (m i : ℕ) → length h < m → ledger R start (c ∷ h) m i ≡ latest (c ∷ h) i
    unfolding ledger at
    late m i l = rw (lt-leb m (length h) l, lt-leb (suc (length h)) (length h) (le_refl _))

    pub next : (i : ℕ) → latest (c ∷ h) i ≡ cond (eqb i (caller c)) (held_after R start h c (ledger R start h)) (latest h i)
    unfolding ledger at
    next i = rw (lt-leb (suc (length h)) (length h) (le_refl _))

  pub before : (f h : History R) (m i : ℕ) → m ≤ length h → ledger R start (f ++ h) m i ≡ ledger R start h m i
  before [] h m i l = refl
  before (c ∷ f) h m i l = past c (f ++ h) m i (simp length-append (omega arith)) ∙ before f h m i l

  pub by_answer : (P : Acts → Type 0) (h : History R) (d : ℕ) (a : R.Act) → (Fits h d a → P (joined (length h) (latest h d)))
      → ((Fits h d a → ⊥) → P (latest h d)) → P (held_after R start h (act d a) (ledger R start h))
  by_answer P h d a fit not =
      cases P (eqb (R.act_answer d a (lone R start h (latest h d))) 0) (λ e. fit (eqb-true _ 0 e)) (λ e. not (eqb-false _ 0 e))

  keeps : (c : Call R.Act) (h : History R) → latest h (caller c) ⊆ held_after R start h c (ledger R start h)
  keeps (act d a) h q p =
      by_answer (λ S. S q ≡ true) h d a (λ _. right (λ i. eqb i (length h)) (latest h d) q p) (λ _. p)
  keeps (take d e m) h q p = left (latest h d) (ledger R start h m e) q p

  pub grows : (c : Call R.Act) (h : History R) (i : ℕ) → latest h i ⊆ latest (c ∷ h) i
  grows c h i q p =
      rw next (cases (λ (S : Acts). S q ≡ true) (eqb i (caller c)) (λ e. keeps c h q (rw (eqb-true i (caller c) e) at p)) (λ _. p))

  pub newest : (h : History R) (a : R.Act) (d e : ℕ) → eqb d e ≡ true → Fits h d a → latest (act d a ∷ h) e (length h) ≡ true
  newest h a d e p f = rw (← eqb-true d e p, next, eq-eqb d d refl, f, eq-eqb (length h) (length h) refl)
