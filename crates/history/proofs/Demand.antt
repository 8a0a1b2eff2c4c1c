-- Demand 3 from the five laws: every state is the lone dispatcher's, so its answers are too, and equal states have the same acts.
-- Assumes nothing.
use Prim.Native.Nat.{ℕ, ◌≤◌, ◌<◌}
use mathlib.Core.Path.{◌≡◌, sym, ◌∙◌, ap, ap₂, fun_ext, subst⁻¹}
use mathlib.Core.Logic.{inl, inr, ⊎_elim}
use mathlib.Core.Bool.{Bool, true, false, cond}
use mathlib.Core.List.{[], ◌∷◌}
use lib.ListN.{length}
use Rattle.history.specs.Replica.{Replica, Call, act, take, Valid}
use Rattle.history.specs.Books.{books}
use Rattle.history.specs.Ledger.{Acts, enter, lone}
use Rattle.history.specs.Claim.{IfMember, Enters, Accepted, ActsAnswered, TakesAccepted, Claim, Demand3}
use Rattle.history.proofs.Laws.{Laws}
use Rattle.history.proofs.Sets.{same}
use Rattle.history.proofs.Moments.{History}
use Rattle.history.proofs.Entries.{entries, lone_run}
use Rattle.history.proofs.Good.{Sound, ledger_sound}
use Rattle.history.proofs.Stages.{longer, contains}
use Rattle.history.proofs.Accepted.{ran, accepted}
use Rattle.history.proofs.Sequential.{merged, sequential}

module _ {R : Replica} {n : ℕ} {Within : R.State → Type 0} {start : R.State} (laws : Laws R n Within start) where
  same_acts : {S T : Acts} {h : History R} → Valid n h → Sound R n start S h → Sound R n start T h
      → lone R start h S ≡ lone R start h T → (q : ℕ) → S q ≡ T q
  same_acts {S} {T} {h} v s t p q =
      let r = ran laws h v in
      let all = laws.equal (entries h S) (entries h T) (r S s.good) (r T t.good)
      (λ e. ⊎_elim (λ x. inr x.0) (λ x. inl x.0) (longer s t e)) (simp (lone_run R) at p) in
      same (S q) (T q) (contains t s (λ e l. sym (all e l)) q) (contains s t all q)

  answered : (h : History R) → Valid n h → ActsAnswered R n Within start h
  answered [] v = tt
  answered (act d a ∷ h) v = (ap (R.act_answer d a) (sequential laws h v.1 (length h) d), answered h v.1)
  answered (take d e m ∷ h) v = answered h v.3

  taken : (h : History R) → Valid n h → TakesAccepted R n Within start h
  taken [] v = tt
  taken (act d a ∷ h) v = taken h v.1
  taken (take d e m ∷ h) v =
      let p = sequential laws h v.3 in
      (ap₂ (R.take_answer d) (p (length h) d) (p m e) ∙ (merged laws d e m h v).0, taken h v.3)

pub demand3 : (R : Replica) (n : ℕ) (Within : R.State → Type 0) (start : R.State) → Laws R n Within start → Demand3 R n Within start
demand3 R n Within start laws h v =
    let p = sequential laws h v in
    let s = ledger_sound R n start h v in
    record {
      sequential = λ m i _ _. p m i;
      accepted = λ m i _ _. accepted laws h v _ (s m i).good;
      exact = λ m i m' i' _ _ _ _. (
        λ q. same_acts laws v (s m i) (s m' i') (sym (p m i) ∙ q ∙ p m' i'),
        λ q. p m i ∙ ap (lone R start h) (fun_ext q) ∙ sym (p m' i'),
      );
      answered = answered laws h v;
      taken = taken laws h v;
    }

-- what the claim says of every desk at every moment: its state is within bounds
module _ (R : Replica) (n : ℕ) (Within : R.State → Type 0) (start : R.State) where
  lone_within : (h : History R) (S : Acts) → Accepted R n Within start h S → Within (lone R start h S)
  unfolding lone
  lone_within [] S a = a
  lone_within (c ∷ h) S a = go c (S (length h)) a.0 (lone_within h S a.1)
    where
      go : (c : Call R.Act) (b : Bool) → IfMember b (Enters R n Within start c (lone R start h S) (cond b (enter R start c (lone R start h S)) (lone R start h S)))
          → Within (lone R start h S) → Within (cond b (enter R start c (lone R start h S)) (lone R start h S))
      go (act d x) true e w = e.1
      go (take d s m) true e w = absurd e
      go c false e w = w

  pub claim_within : (h : History R) → Claim R n Within start h → (m i : ℕ) → m ≤ length h → i < n → Within (books R start h m i)
  claim_within h claim m i l k = subst⁻¹ Within (claim.sequential m i l k) (lone_within h _ (claim.accepted m i l k))
