-- Where a run goes on without one desk, there is a history in which that desk has heard of nothing since: its state stays, and all acts made are the run's.
-- Assumes nothing.
use Prim.Native.Nat.{ℕ, suc, ◌<◌}
use native.Mathlib.Omega.{arith}
use mathlib.Core.Path.{◌≡◌, ap, sym, ◌∙◌}
use mathlib.Core.Logic.{◌≢◌}
use mathlib.Core.Bool.{false}
use mathlib.Core.List.{List, ◌∷◌}
use lib.ListN.{length}
use Rattle.history.specs.Replica.{Replica, act, Valid}
use Rattle.history.specs.Books.{books}
use Rattle.history.specs.Ledger.{lone}
use Rattle.history.specs.Made.{made, global}
use Rattle.history.proofs.Laws.{run, Entered, Laws}
use Rattle.history.proofs.Sets.{equal_sets, fails}
use Rattle.history.proofs.Moments.{History, latest}
use Rattle.history.proofs.Entries.{entries, lone_run, entries_skip}
use Rattle.history.proofs.Good.{ledger_sound}
use Rattle.history.proofs.Sequential.{sequential}
use Rattle.history.proofs.Made.{unions_have, unions_within}
use Rattle.history.proofs.Relayed.{Held, asked, entered, entered_others, one_more, level}

-- fs is es with acts of desks other than d on top
pub data Beyond {A : Type 0} (d : ℕ) (es : List (ℕ × A)) : List (ℕ × A) → Type 0 where
  none : Beyond d es es
  more : {x : ℕ × A} {fs : List (ℕ × A)} → x.0 ≢ d → Beyond d es fs → Beyond d es (x ∷ fs)

module _ (R : Replica) (n : ℕ) (start : R.State) where
  -- desk d holds es, and all acts made are fs
  pub record Apart (d : ℕ) (es fs : List (ℕ × R.Act)) (h : History R) : Type 0 where
    pub held : Held R n start fs h
    pub own_acts : entries h (latest R start h d) ≡ es

  apart : (d : ℕ) → d < n → {es fs : List (ℕ × R.Act)} → Beyond d es fs → Entered R n start fs → (h : History R) × Apart d es fs h
  unfolding entries
  apart d d<n {es} none x =
      let (h, l) = level R n start d d<n es x in
      let mine = l.all d d<n in (
        h,
        record {
          held = record { valid = l.valid; holder = d; there = d<n; all = λ i b q p. rw mine (rw (l.all i b) at p); acts = rw mine l.acts };
          own_acts = rw mine l.acts;
        },
      )
  apart d d<n (more {x = x} other b) y =
      let (h, a) = apart d d<n b y.2 in
      let held = a.held in
      let T = latest R start h d in
      let new : T (suc (length h)) ≡ false = fails _ (λ q. omega (arith, (ledger_sound R n start h held.valid (length h) d).early _ q)) in (
        entered R n start held x.0 x.1 y.0 y.1,
        record {
          held = one_more R n start held x.0 x.1 y.0 y.1;
          own_acts = rw (entered_others R n start held x.0 x.1 y.0 y.1 d (λ q. other (sym q)))
              (entries_skip (act x.0 x.1) (asked R n start held x.0 x.1 y.0 y.1) T new ∙ a.own_acts);
        },
      )

module _ {R : Replica} {n : ℕ} {Within : R.State → Type 0} {start : R.State} (laws : Laws R n Within start) where
  pub unheard : (d : ℕ) → d < n → {es fs : List (ℕ × R.Act)} → Beyond d es fs → Entered R n start fs
      → (h : History R) × Valid n h × (books R start h (length h) d ≡ run R start es) × (global R n start h (length h) ≡ run R start fs)
  unfolding global made
  unheard d d<n b x =
      let (h, a) = apart R n start d d<n b x in
      let held = a.held in
      let all : made R n start h (length h) ≡ latest R start h held.holder
      = equal_sets (unions_within n _ held.all) (unions_have n (λ i. latest R start h i) held.holder held.there) in (
        h,
        held.valid,
        sequential laws h held.valid (length h) d ∙ lone_run R start h _ ∙ ap (run R start) a.own_acts,
        ap (lone R start h) all ∙ lone_run R start h _ ∙ ap (run R start) held.acts,
      )
