-- Every desk's state is the lone dispatcher's, call by call: an act is entered or refused alike, and a take is a join of two stages.
-- Assumes nothing.
use Prim.Native.Nat.{ℕ}
use native.Mathlib.Nat.{lt_irrefl}
use mathlib.Core.Path.{◌≡◌, refl, sym, ◌∙◌, ap, ap₂}
use mathlib.Core.List.{List, [], ◌∷◌}
use lib.ListN.{length}
use Rattle.history.specs.Replica.{Replica, Call, act, take, Valid}
use Rattle.history.specs.Books.{at, called, books}
use Rattle.history.specs.Ledger.{Acts, gained, lone, held_after, ledger}
use Rattle.history.proofs.Laws.{run, Entered, Laws}
use Rattle.history.proofs.Sets.{fails}
use Rattle.history.proofs.Moments.{History, latest, after, by_answer}
use Rattle.history.proofs.Entries.{entries, lone_run, lone_skip, lone_joined}
use Rattle.history.proofs.Good.{Sound, union, valid_before, ledger_sound}
use Rattle.history.proofs.Stages.{longer, behind}
use Rattle.history.proofs.Accepted.{ran}

module _ {R : Replica} {n : ℕ} {Within : R.State → Type 0} {start : R.State} (laws : Laws R n Within start) where
  -- a take of the lone dispatcher's states
  pub merged : (d e m : ℕ) (h : History R) → Valid n (take d e m ∷ h)
      → (R.take_answer d (lone R start h (latest R start h d)) (lone R start h (ledger R start h m e)) ≡ 0)
      × (R.after_take d (lone R start h (latest R start h d)) (lone R start h (ledger R start h m e))
      ≡ lone R start h (gained (latest R start h d) (ledger R start h m e)))
  merged d e m h v =
      let S = latest R start h d in
      let T = ledger R start h m e in
      let s = ledger_sound R n start h v.3 (length h) d in
      let t = ledger_sound R n start h v.3 m e in
      let r = ran laws h v.3 in
      simp (lone_run R) (laws.join d (entries h S) (entries h T) (entries h (gained S T)) v.0
      (r S s.good) (r T t.good) (r (gained S T) (union s t).good) (longer s t) (behind s t d (λ q p. p)))

  -- a call that is not in the set leaves the lone dispatcher's state
  unmoved : {S : Acts} {s : R.State} (c : Call R.Act) (h : History R) → Sound R n start S h → s ≡ lone R start h S
      → s ≡ lone R start (c ∷ h) S
  unmoved {S} c h x p = p ∙ sym (lone_skip R start c h S (fails (S (length h)) (λ q. lt_irrefl (length h) (x.early (length h) q))))

  called_lone : (c : Call R.Act) (h : History R) → Valid n (c ∷ h)
      → ((m i : ℕ) → books R start h m i ≡ lone R start h (ledger R start h m i))
      → called R h c (books R start h) ≡ lone R start (c ∷ h) (held_after R start h c (ledger R start h))
  called_lone (act d a) h v p =
      let q = ap (R.after_act d a) (p (length h) d) in
      by_answer R start (λ T. R.after_act d a (books R start h (length h) d) ≡ lone R start (act d a ∷ h) T) h d a
      (λ _. q ∙ sym (lone_joined R start d a h (latest R start h d)))
      (λ f. unmoved (act d a) h (ledger_sound R n start h v.1 (length h) d) (q ∙ laws.refused d a _ f))
  called_lone (take d e m) h v p =
      let s = ledger_sound R n start h v.3 in
      unmoved (take d e m) h (union (s (length h) d) (s m e))
      (ap₂ (R.after_take d) (p (length h) d) (p m e) ∙ (merged d e m h v).1)

  pub sequential : (h : History R) → Valid n h → (m i : ℕ) → books R start h m i ≡ lone R start h (ledger R start h m i)
  unfolding books ledger at lone
  sequential [] v m i = refl
  sequential (c ∷ h) v m i =
      let w = valid_before n (c ∷ []) h v in
      let p = sequential h w in
      let s = ledger_sound R n start h w in
      after R start (λ s S. s ≡ lone R start (c ∷ h) S) c h m i
      (unmoved c h (s m i) (p m i)) (unmoved c h (s (length h) i) (p (length h) i)) (called_lone c h v p)

  -- so every state is the run of some entered acts
  pub entered_run : (h : History R) → Valid n h → (m i : ℕ)
      → (es : List (ℕ × R.Act)) × Entered R n start es × (books R start h m i ≡ run R start es)
  entered_run h v m i =
      let S = ledger R start h m i in
      (entries h S, ran laws h v S (ledger_sound R n start h v m i).good, sequential h v m i ∙ lone_run R start h S)
