-- All acts made are a good set with all that each desk holds: so whatever follows from a desk's own acts, and from having no more of the others' than
-- there are, holds between a desk's state and the state that all acts make.
-- Assumes nothing.
use Prim.Native.Nat.{ℕ, zero, suc, ◌≤◌, ◌<◌}
use native.Mathlib.Nat.{le_of_suc-le-suc, eq-or-lt_of_le, lt_irrefl, not-suc-le-zero}
use native.Mathlib.Decide.{dec_le}
use native.Mathlib.Omega.{arith}
use mathlib.Core.Path.{◌≡◌, refl}
use mathlib.Core.Logic.{⊎_elim, by_cases}
use mathlib.Core.Bool.{false≢true}
use mathlib.Core.List.{List, [], ◌∷◌}
use lib.ListN.{length}
use Rattle.history.specs.Replica.{Replica, Valid}
use Rattle.history.specs.Books.{books}
use Rattle.history.specs.Ledger.{Acts, none}
use Rattle.history.specs.Guarantees.{◌⊆◌}
use Rattle.history.specs.Made.{unions, made, global}
use Rattle.history.proofs.Laws.{own, Ends, run, Entered, Laws}
use Rattle.history.proofs.Sets.{left, right, or_split, fails}
use Rattle.history.proofs.Moments.{History, latest, past, past_state}
use Rattle.history.proofs.Entries.{entries, lone_run, lone_skip}
use Rattle.history.proofs.Good.{Good, nil, more, Sound, union, valid_before, ledger_sound}
use Rattle.history.proofs.Stages.{full, sub}
use Rattle.history.proofs.Accepted.{ran}
use Rattle.history.proofs.Sequential.{sequential}

-- the union of n sets has each of them, and no more than each set that has them all
pub unions_have : (n : ℕ) (sets : ℕ → Acts) (i : ℕ) → i < n → sets i ⊆ unions n sets
unfolding unions
unions_have zero sets i l q p = absurd (not-suc-le-zero l)
unions_have (suc n) sets i l q p =
    ⊎_elim (λ e. right (unions n sets) (sets n) q (rw e at p)) (λ b. left (unions n sets) (sets n) q (unions_have n sets i b q p))
    (eq-or-lt_of_le (le_of_suc-le-suc l))

pub unions_within : (n : ℕ) (sets : ℕ → Acts) {T : Acts} → ((i : ℕ) → i < n → sets i ⊆ T) → unions n sets ⊆ T
unfolding unions
unions_within zero sets f q p = absurd (false≢true p)
unions_within (suc n) sets f q p =
    ⊎_elim (unions_within n sets (λ i l. f i (omega arith)) q) (f n (omega arith) q) (or_split (unions n sets q) p)

unions_cong : (n : ℕ) {f g : ℕ → Acts} → ((i : ℕ) → f i ≡ g i) → unions n f ≡ unions n g
unfolding unions
unions_cong zero e = refl
unions_cong (suc n) e = rw (unions_cong n e, e n)

module _ {R : Replica} {n : ℕ} {start : R.State} where
  none_good : (h : History R) → Good R n start none h
  none_good [] = nil
  none_good (c ∷ h) = more (λ p. absurd (false≢true p)) (none_good h)

  unions_sound : {h : History R} (k : ℕ) (sets : ℕ → Acts) → ((i : ℕ) → Sound R n start (sets i) h) → Sound R n start (unions k sets) h
  unfolding unions
  unions_sound {h} zero sets s = record { good = none_good h; early = λ q p. absurd (false≢true p) }
  unions_sound (suc k) sets s = union (unions_sound k sets s) (s k)

module _ {R : Replica} {n : ℕ} {Within : R.State → Type 0} {start : R.State} (laws : Laws R n Within start)
    (Sure : ℕ → R.State → R.State → Type 0)
    (sure : (d : ℕ) (es fs : List (ℕ × R.Act)) → d < n → Entered R n start es → Entered R n start fs
    → ((e : ℕ) → Ends (own e es) (own e fs)) → own d es ≡ own d fs → Sure d (run R start es) (run R start fs)) where
  made_sound : (h : History R) → Valid n h → (m : ℕ) → Sound R n start (made R n start h m) h
  unfolding made
  made_sound h v m = unions_sound n _ (λ i. ledger_sound R n start h v m _)

  newest : (h : History R) → Valid n h → (d : ℕ) → d < n → Sure d (books R start h (length h) d) (global R n start h (length h))
  unfolding global made
  newest h v d l =
      let S = latest R start h d in
      let U = made R n start h (length h) in
      let s = ledger_sound R n start h v (length h) d in
      let u = made_sound h v (length h) in
      let wider = unions_have n (λ i. latest R start h i) d l in
      rw (sequential laws h v (length h) d)
      (simp (lone_run R) (sure d (entries h S) (entries h U) l (ran laws h v S s.good) (ran laws h v U u.good)
      (λ e. sub wider e s.good u.good) (full wider d u.good (λ q p. p))))

  -- at every moment, since a moment of a list of calls is the last of its calls until then
  pub always : (h : History R) → Valid n h → (m d : ℕ) → m ≤ length h → d < n → Sure d (books R start h m d) (global R n start h m)
  unfolding global made
  always [] v m d l b = let now : m ≡ 0 = omega arith in rw now (newest [] v d b)
  always (c ∷ h) v m d l b =
      by_cases (dec_le m (length h))
      (λ early.
      let w = valid_before n (c ∷ []) h v in
      let same : made R n start (c ∷ h) m ≡ made R n start h m = unions_cong n (λ i. past R start c h m i early) in
      let skip = lone_skip R start c h (made R n start h m) (fails _ (λ q. lt_irrefl (length h) ((made_sound h w m).early (length h) q))) in
      rw (past_state R start c h m d early, same, skip) (always h w m d early b))
      (λ late. let now : m ≡ suc (length h) = omega arith in rw now (newest (c ∷ h) v d b))
