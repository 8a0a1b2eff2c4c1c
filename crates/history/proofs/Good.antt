-- A good set has, with each act, all that its desk then held; a desk's set is good, since a call adds an act that fits or a good set.
-- Assumes nothing.
use Prim.Native.Nat.{ℕ, ◌<◌}
use native.Mathlib.Nat.{lt_irrefl, lt-suc_self}
use native.Mathlib.Omega.{arith}
use mathlib.Core.Path.{◌≡◌}
use mathlib.Core.Logic.{◌⊎◌, inl, inr, ⊎_elim}
use mathlib.Core.Bool.{true, false≢true}
use mathlib.Core.List.{List, [], ◌∷◌, ◌++◌}
use lib.ListN.{length}
use lib.Dec.{eqb}
use borrow.Author.Tests.{eqb-true}
use Rattle.history.specs.Replica.{Replica, Call, act, take, Valid}
use Rattle.history.specs.Books.{at}
use Rattle.history.specs.Ledger.{Acts, gained, joined, held_after, ledger}
use Rattle.history.specs.Guarantees.{◌⊆◌}
use Rattle.history.proofs.Sets.{left, right, or_split}
use Rattle.history.proofs.Moments.{History, latest, Fits, after, by_answer}

module _ (R : Replica) (n : ℕ) (start : R.State) where
  -- S may have the act a of desk d after h
  pub record Entry (S : Acts) (d : ℕ) (a : R.Act) (h : History R) : Type 0 where
    pub desk : d < n
    pub fits : Fits R start h d a
    pub held : latest R start h d ⊆ S

  abbrev pub MayHave : Acts → Call R.Act → History R → Type 0
  MayHave S (act d a) h = Entry S d a h
  MayHave S (take d e m) h = ⊥

  have_more : (c : Call R.Act) (h : History R) {S T : Acts} → S ⊆ T → MayHave S c h → MayHave T c h
  have_more (act d a) h st x = record { desk = x.desk; fits = x.fits; held = λ q p. st q (x.held q p) }
  have_more (take d e m) h st x = x

  pub data Good (S : Acts) : History R → Type 0 where
    nil : Good S []
    more : {c : Call R.Act} {h : History R} → (S (length h) ≡ true → MayHave S c h) → Good S h → Good S (c ∷ h)

  -- good, and of calls of h alone
  pub record Sound (S : Acts) (h : History R) : Type 0 where
    pub good : Good S h
    pub early : (q : ℕ) → S q ≡ true → q < length h

module _ {R : Replica} {n : ℕ} {start : R.State} where
  -- a set that two good sets make up is good
  cover : {S T U : Acts} {h : History R} → Good R n start S h → Good R n start T h → S ⊆ U → T ⊆ U
      → ((q : ℕ) → q < length h → U q ≡ true → (S q ≡ true) ⊎ (T q ≡ true)) → Good R n start U h
  cover nil nil su tu split = nil
  cover {h = c ∷ h} (more g G) (more k K) su tu split =
      more (λ u. ⊎_elim (λ s. have_more R n start c h su (g s)) (λ t. have_more R n start c h tu (k t))
      (split (length h) (lt-suc_self _) u))
      (cover G K su tu (λ q l. split q (omega arith)))

  pub union : {S T : Acts} {h : History R} → Sound R n start S h → Sound R n start T h → Sound R n start (gained S T) h
  union {S} {T} s t = record {
    good = cover s.good t.good (left S T) (right S T) (λ q _ p. or_split (S q) p);
    early = λ q p. ⊎_elim (s.early q) (t.early q) (or_split (S q) p);
  }

  later : {S : Acts} {c : Call R.Act} {h : History R} → Sound R n start S h → Sound R n start S (c ∷ h)
  later {h = h} s = record {
    good = more (λ p. absurd (lt_irrefl (length h) (s.early (length h) p))) s.good;
    early = λ q p. omega (arith, s.early q p);
  }

  act_joined : {d : ℕ} {a : R.Act} {h : History R} → d < n → Fits R start h d a
      → Sound R n start (latest R start h d) h → Sound R n start (joined (length h) (latest R start h d)) (act d a ∷ h)
  act_joined {d} {a} {h} l f s = record {
    good = more {c = act d a} (λ _. record { desk = l; fits = f; held = wider })
        (cover s.good s.good wider wider (λ q b p. ⊎_elim (λ e. absurd (omega (arith, e))) (λ x. inl x) (split q p)));
    early = λ q p. ⊎_elim (λ e. omega (arith, e)) (λ x. omega (arith, s.early q x)) (split q p);
  }
    where
      S : Acts
      S = latest R start h d

      wider : S ⊆ joined (length h) S
      wider = right (λ q. eqb q (length h)) S

      split : (q : ℕ) → joined (length h) S q ≡ true → (q ≡ length h) ⊎ (S q ≡ true)
      split q p = ⊎_elim (λ e. inl (eqb-true q (length h) e)) (λ x. inr x) (or_split (eqb q (length h)) p)

pub valid_before : {Act : Type 0} (n : ℕ) (f h : List (Call Act)) → Valid n (f ++ h) → Valid n h
valid_before n [] h v = v
valid_before n (act d a ∷ f) h v = valid_before n f h v.1
valid_before n (take d e m ∷ f) h v = valid_before n f h v.3

module _ (R : Replica) (n : ℕ) (start : R.State) where
  held_sound : (c : Call R.Act) (h : History R) → Valid n (c ∷ h) → ((m i : ℕ) → Sound R n start (ledger R start h m i) h)
      → Sound R n start (held_after R start h c (ledger R start h)) (c ∷ h)
  held_sound (act d a) h v s =
      by_answer R start (λ S. Sound R n start S (act d a ∷ h)) h d a
      (λ f. act_joined v.0 f (s (length h) d)) (λ _. later (s (length h) d))
  held_sound (take d e m) h v s = later (union (s (length h) d) (s m e))

  pub ledger_sound : (h : History R) → Valid n h → (m i : ℕ) → Sound R n start (ledger R start h m i) h
  unfolding ledger at
  ledger_sound [] v m i = record { good = nil; early = λ q p. absurd (false≢true p) }
  ledger_sound (c ∷ h) v m i =
      let s = ledger_sound h (valid_before n (c ∷ []) h v) in
      after R start (λ _ S. Sound R n start S (c ∷ h)) c h m i (later (s m i)) (later (s (length h) i)) (held_sound c h v s)
