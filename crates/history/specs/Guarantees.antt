-- What the claim gives a desk, in the terms of the literature (source documents 002 and 003): four session guarantees, and convergence.
-- Assumes nothing.
use Rattle.std.specs.Prelude.{ℕ, ◌≤◌, ◌<◌, ◌≡◌, ◌≢◌, true, length}
use mathlib.Core.List.{List, [], ◌∷◌, ◌++◌, Memᴰ}
use Rattle.history.specs.Replica.{Replica, Call, act, take, Valid}
use Rattle.history.specs.Books.{books}
use Rattle.history.specs.Ledger.{Acts, ledger}

infix 4 ◌⊆◌
abbrev pub ◌⊆◌ : Acts → Acts → Type 0
S ⊆ T = (place : ℕ) → S place ≡ true → T place ≡ true

abbrev pub OnlyTakes : {Act : Type 0} → List (Call Act) → Type 0
OnlyTakes [] = Unit {0}
OnlyTakes (act d a ∷ ts) = ⊥
OnlyTakes (take d e m ∷ ts) = OnlyTakes ts

-- Histories are newest first: f ++ (act d a ∷ h) is h, then the act, then f, and the act's place is the length of h.
-- a desk's set never shrinks
abbrev pub MonotonicReads : (R : Replica) → R.State → Type 0
MonotonicReads R start = (h : List (Call R.Act)) (m m' i : ℕ) → m ≤ m' → ledger R start h m i ⊆ ledger R start h m' i

module _ (R : Replica) (n : ℕ) (start : R.State) where
  -- an act that its desk's state accepts is in the desk's set from then on
  abbrev pub ReadYourWrites : Type 0
  ReadYourWrites =
      (f h : List (Call R.Act)) (d : ℕ) (a : R.Act) → Valid n (f ++ (act d a ∷ h))
      → R.act_answer d a (books R start h (length h) d) ≡ 0
      → (m : ℕ) → length h < m → ledger R start (f ++ (act d a ∷ h)) m d (length h) ≡ true

  -- a set with an act has all that the act's desk held when it entered it
  abbrev pub WritesFollowReads : Type 0
  WritesFollowReads =
      (f h : List (Call R.Act)) (d : ℕ) (a : R.Act) → Valid n (f ++ (act d a ∷ h))
      → (m i : ℕ) → ledger R start (f ++ (act d a ∷ h)) m i (length h) ≡ true
      → ledger R start h (length h) d ⊆ ledger R start (f ++ (act d a ∷ h)) m i

  -- a set with an act has each act that its desk entered before it
  abbrev pub MonotonicWrites : Type 0
  MonotonicWrites =
      (f g h : List (Call R.Act)) (d : ℕ) (a b : R.Act) → Valid n (f ++ (act d a ∷ (g ++ (act d b ∷ h))))
      → R.act_answer d b (books R start h (length h) d) ≡ 0
      → (m i : ℕ) → ledger R start (f ++ (act d a ∷ (g ++ (act d b ∷ h)))) m i (length (g ++ (act d b ∷ h))) ≡ true
      → ledger R start (f ++ (act d a ∷ (g ++ (act d b ∷ h)))) m i (length h) ≡ true

  -- where only takes follow h, and by them each desk takes a copy that each other made after h, all states are equal
  abbrev pub Convergence : Type 0
  Convergence =
      (ts h : List (Call R.Act)) → OnlyTakes ts → Valid n (ts ++ h)
      → ((i j : ℕ) → i < n → j < n → i ≢ j → (m : ℕ) × (length h ≤ m) × Memᴰ (take i j m) ts)
      → (i j : ℕ) → i < n → j < n → books R start (ts ++ h) (length (ts ++ h)) i ≡ books R start (ts ++ h) (length (ts ++ h)) j

  pub record Guarantees : Type 0 where
    pub monotonic_reads : MonotonicReads R start
    pub read_your_writes : ReadYourWrites
    pub writes_follow_reads : WritesFollowReads
    pub monotonic_writes : MonotonicWrites
    pub convergence : Convergence
