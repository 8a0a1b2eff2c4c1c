-- Of each desk's acts a good set has an early stage: where it has an act of the desk, it has all that the desk held before.
-- Assumes nothing.
use Prim.Native.Nat.{ℕ, suc, ◌<◌}
use native.Mathlib.Nat.{eq-or-lt_of_le, le_of_suc-le-suc}
use native.Mathlib.Omega.{arith}
use mathlib.Core.Path.{◌≡◌, refl, sym, ◌∙◌, ap₂}
use mathlib.Core.Logic.{◌⊎◌, inl, inr, ⊎_elim}
use mathlib.Core.Bool.{true, cond}
use mathlib.Core.List.{[], ◌∷◌}
use lib.ListN.{length}
use borrow.Author.Tests.{eqb-true, eqb-false}
use Rattle.history.specs.Replica.{Replica, act, take}
use Rattle.history.specs.Ledger.{Acts, gained}
use Rattle.history.specs.Guarantees.{◌⊆◌}
use Rattle.history.proofs.Laws.{Ends, Longer}
use Rattle.history.proofs.Sets.{left, right, same}
use Rattle.history.proofs.Tails.{ends_put, either_put, put_back}
use Rattle.history.proofs.Moments.{History, latest, grows, newest}
use Rattle.history.proofs.Entries.{entries, kept, by_desk}
use Rattle.history.proofs.Good.{Good, nil, more, Sound, union}

-- what holds of k, and of all below it
upto : (P : ℕ → Type 0) {k : ℕ} → P k → ((q : ℕ) → q < k → P q) → (q : ℕ) → q < suc k → P q
upto P last rest q l = ⊎_elim (λ e. rw e last) (rest q) (eq-or-lt_of_le (le_of_suc-le-suc l))

module _ {R : Replica} {n : ℕ} {start : R.State} {S T : Acts} (st : S ⊆ T) where
  -- with all that desk e holds, S has all acts of e that the larger T has
  pub full : {h : History R} (e : ℕ) → Good R n start T h → latest R start h e ⊆ S → kept e h S ≡ kept e h T
  unfolding entries
  full e nil all = refl
  full {h = act d a ∷ h} e (more g G) all =
      let p = full e G (λ q x. all q (grows R start (act d a) h e q x)) in
      by_desk (λ k. k S ≡ k T) e d a h
      (λ x. ap₂ (λ b r. cond b (a ∷ r) r)
      (same (S (length h)) (T (length h)) (st (length h)) (λ t. all (length h) (newest R start h a d e x (g t).fits))) p)
      (λ _. p)
  full {h = take d i m ∷ h} e (more g G) all = full e G (λ q x. all q (grows R start (take d i m) h e q x))

  pub sub : {h : History R} (e : ℕ) → Good R n start S h → Good R n start T h → Ends (kept e h S) (kept e h T)
  unfolding entries
  sub e nil nil = ([], refl)
  sub {h = act d a ∷ h} e (more g G) (more k K) =
      let p = sub e G K in
      by_desk (λ k. Ends (k S) (k T)) e d a h
      (λ x. ends_put a _ _ (st (length h)) (λ s. full e K (rw (eqb-true d e x) at (g s).held)) p)
      (λ _. p)
  sub {h = take d i m ∷ h} e (more g G) (more k K) = sub e G K

  -- with as many acts of each desk, S has all that T has
  agree : {h : History R} → Good R n start S h → Good R n start T h → ((e : ℕ) → e < n → kept e h S ≡ kept e h T)
      → (q : ℕ) → q < length h → T q ≡ true → S q ≡ true
  unfolding entries
  agree nil nil p = λ q l. absurd (omega arith)
  agree {h = act d a ∷ h} (more g G) (more k K) p =
      upto (λ q. T q ≡ true → S q ≡ true)
      (λ y. by_desk (λ k. k S ≡ k T → S (length h) ≡ true) d d a h (λ _ z. (put_back a _ _ (st (length h)) (sub d G K) z).0 y)
      (λ x. absurd (eqb-false d d x refl)) (p d (k y).desk))
      (agree G K (λ e l. by_desk (λ k. k S ≡ k T → kept e h S ≡ kept e h T) e d a h
      (λ _ z. (put_back a _ _ (st (length h)) (sub e G K) z).1) (λ _ z. z) (p e l)))
  agree {h = take d i m ∷ h} (more g G) (more k K) p = upto (λ q. T q ≡ true → S q ≡ true) (λ t. absurd (k t)) (agree G K p)

-- one of two good sets has all acts of desk e that both have together
either : {R : Replica} {n : ℕ} {start : R.State} {S T : Acts} {h : History R} (e : ℕ) → Good R n start S h → Good R n start T h
    → Good R n start (gained S T) h → (kept e h S ≡ kept e h (gained S T)) ⊎ (kept e h T ≡ kept e h (gained S T))
unfolding entries
either e nil nil nil = inl refl
either {R} {S = S} {T} {h = act d a ∷ h} e (more g G) (more k K) (more _ U) =
    let p = either e G K U in
    by_desk (λ k. (k S ≡ k (gained S T)) ⊎ (k T ≡ k (gained S T))) e d a h
    (λ x. either_put a _ _ (λ s. full (left S T) e U (rw (eqb-true d e x) at (g s).held))
    (λ t. full (right S T) e U (rw (eqb-true d e x) at (k t).held)) p)
    (λ _. p)
either {h = take d i m ∷ h} e (more g G) (more k K) (more _ U) = either e G K U

module _ {R : Replica} {n : ℕ} {start : R.State} {S T : Acts} {h : History R}
    (s : Sound R n start S h) (t : Sound R n start T h) where
  pub longer : (e : ℕ) → Longer (kept e h S) (kept e h T) (kept e h (gained S T))
  longer e =
      let u = (union s t).good in
      ⊎_elim (λ p. inl (rw p (sub (right S T) e t.good u), sym p)) (λ p. inr (rw p (sub (left S T) e s.good u), sym p))
      (either e s.good t.good u)

  -- no set is ahead of one with all that the desk holds
  pub behind : (e : ℕ) → latest R start h e ⊆ S → Ends (kept e h T) (kept e h S)
  behind e all =
      let u = (union s t).good in
      let p : kept e h S ≡ kept e h (gained S T) = full (left S T) e u all in
      rw p (sub (right S T) e t.good u)

  pub contains : ((e : ℕ) → e < n → kept e h S ≡ kept e h T) → T ⊆ S
  contains p q x =
      let u = (union s t).good in
      agree (left S T) s.good u (λ e l. ⊎_elim (λ z. z) (λ z. p e l ∙ z) (either e s.good t.good u)) q
      (t.early q x) (right S T q x)
