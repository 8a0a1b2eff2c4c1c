-- The acts of a set, as the list that the lone dispatcher enters: call by call both do the same.
-- Assumes nothing.
use Prim.Native.Nat.{ℕ, ◌<◌}
use native.Mathlib.Omega.{arith}
use mathlib.Core.Path.{◌≡◌, refl, ap, ap₂, subst⁻¹, fun_ext}
use mathlib.Core.Bool.{Bool, true, false, cond}
use mathlib.Core.List.{List, [], ◌∷◌}
use lib.ListN.{length}
use lib.Dec.{eqb}
use borrow.Author.Tests.{eq-eqb, ne_eqb}
use Rattle.history.specs.Replica.{Replica, Call, act, take}
use Rattle.history.specs.Ledger.{Acts, joined, lone}
use Rattle.history.proofs.Laws.{own, run}
use Rattle.history.proofs.Sets.{cases, arms}
use Rattle.history.proofs.Moments.{History}

module _ {A : Type 0} where
  -- the acts of h in S with their desks, newest first
  unfoldable pub entries : List (Call A) → Acts → List (ℕ × A)
  entries [] S = []
  entries (act d a ∷ h) S = cond (S (length h)) ((d, a) ∷ entries h S) (entries h S)
  entries (take d e m ∷ h) S = entries h S

  -- those of desk e alone
  abbrev pub kept : ℕ → List (Call A) → Acts → List A
  kept e h S = own e (entries h S)

  -- an act of another desk changes nothing, and one of desk e is the newest of each set that has it
  pub by_desk : (P : (Acts → List A) → Type 0) (e d : ℕ) (a : A) (h : List (Call A))
      → (eqb d e ≡ true → P (λ S. cond (S (length h)) (a ∷ kept e h S) (kept e h S))) → (eqb d e ≡ false → P (kept e h))
      → P (kept e (act d a ∷ h))
  unfolding entries
  by_desk P e d a h mine other = go (eqb d e) refl
    where
      go : (b : Bool) → eqb d e ≡ b → P (kept e (act d a ∷ h))
      go true x =
          let new : (S : Acts) → own e ((d, a) ∷ entries h S) ≡ a ∷ kept e h S = λ S. rw x in
          subst⁻¹ P (fun_ext (λ S. arms (λ (es : List (ℕ × A)) (k : List A). own e es ≡ k) (S (length h)) (new S) refl)) (mine x)
      go false x =
          let old : (S : Acts) → own e ((d, a) ∷ entries h S) ≡ kept e h S = λ S. rw x in
          subst⁻¹ P (fun_ext (λ S. cases (λ (es : List (ℕ × A)). own e es ≡ kept e h S) (S (length h)) (λ _. old S) (λ _. refl)))
          (other x)

  -- a set without the newest call
  pub entries_skip : (c : Call A) (h : List (Call A)) (S : Acts) → S (length h) ≡ false → entries (c ∷ h) S ≡ entries h S
  unfolding entries
  entries_skip (act d a) h S p = rw p
  entries_skip (take d e m) h S p = refl

  entries_below : (h : List (Call A)) {S T : Acts} → ((q : ℕ) → q < length h → S q ≡ T q) → entries h S ≡ entries h T
  unfolding entries
  entries_below [] f = refl
  entries_below (act d a ∷ h) f =
      ap₂ (λ b es. cond b ((d, a) ∷ es) es) (f (length h) (omega arith)) (entries_below h (λ q l. f q (omega arith)))
  entries_below (take d e m ∷ h) f = entries_below h (λ q l. f q (omega arith))

  -- a set with it
  pub entries_joined : (d : ℕ) (a : A) (h : List (Call A)) (S : Acts)
      → entries (act d a ∷ h) (joined (length h) S) ≡ (d, a) ∷ entries h S
  unfolding entries
  entries_joined d a h S =
      rw (eq-eqb (length h) (length h) refl)
      (ap (λ es. (d, a) ∷ es) (entries_below h (λ q l. rw (ne_eqb q (length h) (omega arith)))))

module _ (R : Replica) (start : R.State) where
  pub lone_run : (h : History R) (S : Acts) → lone R start h S ≡ run R start (entries h S)
  unfolding lone entries
  lone_run [] S = refl
  lone_run (act d a ∷ h) S =
      arms (λ s es. s ≡ run R start es) (S (length h)) (ap (R.after_act d a) (lone_run h S)) (lone_run h S)
  lone_run (take d e m ∷ h) S =
      cases (λ s. s ≡ run R start (entries h S)) (S (length h)) (λ _. lone_run h S) (λ _. lone_run h S)

  pub lone_skip : (c : Call R.Act) (h : History R) (S : Acts) → S (length h) ≡ false → lone R start (c ∷ h) S ≡ lone R start h S
  unfolding lone
  lone_skip c h S p = rw p

  -- a set with it
  pub lone_joined : (d : ℕ) (a : R.Act) (h : History R) (S : Acts)
      → lone R start (act d a ∷ h) (joined (length h) S) ≡ R.after_act d a (lone R start h S)
  lone_joined d a h S = simp (lone_run, entries_joined)
