-- The run of a good set is accepted: each act was, when its desk held as many of its own acts and no more of the others'.
-- Assumes nothing.
use Prim.Native.Nat.{ℕ}
use mathlib.Core.Path.{◌≡◌, refl}
use mathlib.Core.Bool.{Bool, true, false}
use mathlib.Core.List.{[], ◌∷◌}
use lib.ListN.{length}
use Rattle.history.specs.Replica.{Replica, act, take, Valid}
use Rattle.history.specs.Ledger.{Acts}
use Rattle.history.specs.Claim.{IfMember, Accepted}
use Rattle.history.proofs.Laws.{Entered, Laws}
use Rattle.history.proofs.Sets.{cases}
use Rattle.history.proofs.Moments.{History, latest}
use Rattle.history.proofs.Entries.{entries, lone_run}
use Rattle.history.proofs.Good.{Good, more, ledger_sound}
use Rattle.history.proofs.Stages.{full, sub}

module _ {R : Replica} {n : ℕ} {Within : R.State → Type 0} {start : R.State} (laws : Laws R n Within start) where
  pub ran : (h : History R) → Valid n h → (S : Acts) → Good R n start S h → Entered R n start (entries h S)
  unfolding entries
  ran [] v S G = tt
  ran (act d a ∷ h) v S (more g G) =
      let r = ran h v.1 in
      let L = (ledger_sound R n start h v.1 (length h) d).good in
      cases (Entered R n start) (S (length h))
      (λ s. let x = g s in (
        x.desk,
        laws.monotone d a (entries h (latest R start h d)) (entries h S) x.desk (r _ L) (r S G)
            (λ e. sub x.held e L G) (full x.held d G (λ q p. p)) (rw (lone_run R) at x.fits),
        r S G,
      ))
      (λ _. r S G)
  ran (take d e m ∷ h) v S (more g G) = ran h v.3 S G

  member : (b : Bool) (P : Type 0) → (b ≡ true → P) → IfMember b P
  member true P f = f refl
  member false P f = tt

  pub accepted : (h : History R) → Valid n h → (S : Acts) → Good R n start S h → Accepted R n Within start h S
  unfolding entries
  accepted [] v S G = laws.bounds [] tt
  accepted (act d a ∷ h) v S (more g G) =
      let r = ran (act d a ∷ h) v S (more g G) in
      let within = laws.bounds (entries (act d a ∷ h) S) r in
      (member (S (length h)) _ (λ s. simp (lone_run R) ((rw s at r).1, within)), accepted h v.1 S G)
  accepted (take d e m ∷ h) v S (more g G) = (member (S (length h)) _ g, accepted h v.3 S G)
