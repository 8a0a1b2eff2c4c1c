-- The session guarantees and convergence: a desk's set is good and only grows, and a take adds all that the source then held.
-- Assumes nothing.
use Prim.Native.Nat.{ℕ, ◌≤◌, ◌<◌}
use native.Mathlib.Nat.{le_refl}
use native.Mathlib.Decide.{dec_le, ℕ_discrete}
use native.Mathlib.Omega.{arith}
use mathlib.Core.Path.{◌≡◌, refl, sym, ◌∙◌, ap, fun_ext}
use mathlib.Core.Logic.{◌≢◌, ⊎_elim, by_cases}
use mathlib.Core.Bool.{true}
use mathlib.Core.List.{[], ◌∷◌, ◌++◌, Memᴰ}
use lib.ListN.{length, length-append}
use lib.Dec.{eqb}
use borrow.Author.Tests.{eq-eqb}
use Rattle.history.specs.Replica.{Replica, Call, act, take, Valid}
use Rattle.history.specs.Books.{at}
use Rattle.history.specs.Ledger.{Acts, lone, ledger}
use Rattle.history.specs.Guarantees.{◌⊆◌, OnlyTakes, MonotonicReads, ReadYourWrites, WritesFollowReads, MonotonicWrites, Convergence, Guarantees}
use Rattle.history.proofs.Laws.{Laws}
use Rattle.history.proofs.Sets.{right, or_split, same, cases}
use Rattle.history.proofs.Moments.{History, latest, past, late, before, next, grows, newest}
use Rattle.history.proofs.Good.{MayHave, Good, more, valid_before, ledger_sound}
use Rattle.history.proofs.Sequential.{sequential}

module _ (R : Replica) (start : R.State) where
  reads : MonotonicReads R start
  unfolding ledger at
  reads [] m m' i l q p = p
  reads (c ∷ h) m m' i l q p =
      by_cases (dec_le m' (length h))
      (λ b. rw (past R start c h m' i b) (reads h m m' i l q (rw (past R start c h m i (omega arith)) at p)))
      (λ b. rw (late R start c h m' i (omega arith)) (by_cases (dec_le m (length h))
      (λ k. grows R start c h i q (reads h m (length h) i k q (rw (past R start c h m i k) at p)))
      (λ k. rw (late R start c h m i (omega arith)) at p)))

  -- what a desk had after h, it has at each later moment
  stays : (f h : History R) {m : ℕ} (i : ℕ) → length h ≤ m → latest R start h i ⊆ ledger R start (f ++ h) m i
  stays f h {m} i l q p = reads (f ++ h) (length h) m i l q (rw (before R start f h (length h) i (le_refl _)) p)

  -- what desk j had after h, desk i has when it has taken a later copy of j's
  heard : (h : History R) (i j m : ℕ) {f : History R} → length h ≤ m → Memᴰ (take i j m) f
      → latest R start h j ⊆ latest R start (f ++ h) i
  heard h i j m l (Memᴰ.head {xs = f} e) q p =
      rw (← e, next, eq-eqb i i refl) (right (latest R start (f ++ h) i) (ledger R start (f ++ h) m j) q (stays f h j l q p))
  heard h i j m l (Memᴰ.tail {x = c} {xs = f} x) q p = grows R start c (f ++ h) i q (heard h i j m l x q p)

module _ {R : Replica} {n : ℕ} {start : R.State} where
  had : {S : Acts} (c : Call R.Act) (f h : History R) → Good R n start S (f ++ (c ∷ h)) → S (length h) ≡ true
      → MayHave R n start S c h
  had c [] h (more g G) = g
  had c (x ∷ f) h (more g G) = had c f h G

module _ {R : Replica} {n : ℕ} {Within : R.State → Type 0} {start : R.State} (laws : Laws R n Within start) where
  your_writes : ReadYourWrites R n start
  your_writes f h d a v p m l =
      stays R start f (act d a ∷ h) d l (length h) (newest R start h a d d (eq-eqb d d refl)
      (rw (sequential laws h (valid_before n f (act d a ∷ h) v).1 (length h) d) at p))

  follow_reads : WritesFollowReads R n start
  follow_reads f h d a v m i p = (had (act d a) f h (ledger_sound R n start (f ++ (act d a ∷ h)) v m i).good p).held

  writes : MonotonicWrites R n start
  writes f g h d a b v p m i x =
      let w = g ++ (act d b ∷ h) in
      follow_reads f w d a v m i x (length h)
      (your_writes g h d b (valid_before n f (act d a ∷ w) v).1 p (length w) (simp length-append (omega arith)))

  -- takes bring no act that some desk did not have
  origin : (ts h : History R) → OnlyTakes ts → Valid n (ts ++ h) → (i q : ℕ) → i < n → latest R start (ts ++ h) i q ≡ true
      → (k : ℕ) × (k < n) × (latest R start h k q ≡ true)
  origin [] h o v i q l p = (i, l, p)
  origin (act desk _ ∷ ts) h o v i q l p = elim o [ ]
  origin (take d e m ∷ ts) h o v i q l p =
      let from = origin ts h o v.3 in
      let g = ts ++ h in
      cases (λ (S : Acts). S q ≡ true → (k : ℕ) × (k < n) × (latest R start h k q ≡ true)) (eqb i d)
      (λ _ x. ⊎_elim (from d q v.0) (λ y. from e q v.1 (reads R start g m (length g) e v.2 q y))
      (or_split (latest R start g d q) x))
      (λ _. from i q l) (rw next at p)

  module _ (ts h : History R) (only : OnlyTakes ts) (v : Valid n (ts ++ h))
      (all : (i j : ℕ) → i < n → j < n → i ≢ j → (m : ℕ) × (length h ≤ m) × Memᴰ (take i j m) ts) where
    spread : (i j : ℕ) → i < n → j < n → latest R start (ts ++ h) i ⊆ latest R start (ts ++ h) j
    spread i j l l' q p =
        let (k, b, x) = origin ts h only v i q l p in
        by_cases (ℕ_discrete j k) (λ e. stays R start ts h j (simp length-append (omega arith)) q (rw e x))
        (λ e. let t = all j k l' b e in heard R start h j k t.0 t.1 t.2 q x)

  converged : Convergence R n start
  converged ts h only v all i j l l' =
      let p = sequential laws (ts ++ h) v (length (ts ++ h)) in
      p i ∙ ap (lone R start (ts ++ h)) (fun_ext (λ q. same _ _ (spread ts h only v all i j l l' q) (spread ts h only v all j i l' l q))) ∙ sym (p j)

  pub guarantees : Guarantees R n start
  guarantees =
      record {
        monotonic_reads = reads R start;
        read_your_writes = your_writes;
        writes_follow_reads = follow_reads;
        monotonic_writes = writes;
        convergence = converged;
      }
