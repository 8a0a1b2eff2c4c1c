-- Demand 3 as one type, over any replica and a history of any length.
-- Assumes nothing.
use Rattle.std.specs.Prelude.{ℕ, ◌≤◌, ◌<◌, ◌≡◌, ◌↔◌, Bool, true, false, List, [], ◌∷◌, length}
use Rattle.history.specs.Replica.{Replica, Call, act, take, Valid}
use Rattle.history.specs.Books.{books}
use Rattle.history.specs.Ledger.{Acts, lone, ledger}

abbrev pub IfMember : Bool → Type 0 → Type 0
IfMember true P = P
IfMember false P = Unit {0}

-- n desks, all starting with `start`; `Within` is what every state must keep (of the book: each pile between floor and top)
module _ (R : Replica) (n : ℕ) (Within : R.State → Type 0) (start : R.State) where
  -- What entering one member of a set asks: it is an act, it is answered 0 at its turn, and what it leaves is within bounds.
  abbrev pub Enters : Call R.Act → R.State → R.State → Type 0
  Enters (act d a) before after = (R.act_answer d a before ≡ 0) × Within after
  Enters (take d e m) before after = ⊥

  -- along the lone dispatcher's run no act is refused, and every state is within bounds
  abbrev pub Accepted : List (Call R.Act) → Acts → Type 0
  Accepted [] S = Within start
  Accepted (c ∷ h) S =
      IfMember (S (length h)) (Enters c (lone R start h S) (lone R start (c ∷ h) S)) × Accepted h S

  -- Each call of an act is answered as the lone dispatcher is, with the acts that its desk then holds.
  abbrev pub ActsAnswered : List (Call R.Act) → Type 0
  ActsAnswered [] = Unit {0}
  ActsAnswered (act d a ∷ h) =
      (R.act_answer d a (books R start h (length h) d) ≡ R.act_answer d a (lone R start h (ledger R start h (length h) d)))
      × ActsAnswered h
  ActsAnswered (take d e m ∷ h) = ActsAnswered h

  abbrev pub TakesAccepted : List (Call R.Act) → Type 0
  TakesAccepted [] = Unit {0}
  TakesAccepted (act d a ∷ h) = TakesAccepted h
  TakesAccepted (take d e m ∷ h) =
      (R.take_answer d (books R start h (length h) d) (books R start h m e) ≡ 0) × TakesAccepted h

  -- The five parts, of one history. `m` and `i` range over every moment and desk.
  pub record Claim (h : List (Call R.Act)) : Type 0 where
    -- 1. every desk's state is the lone dispatcher's for the set that the desk holds
    pub sequential : (m i : ℕ) → m ≤ length h → i < n → books R start h m i ≡ lone R start h (ledger R start h m i)
    -- 2. that run is refused nothing, and stays within bounds
    pub accepted : (m i : ℕ) → m ≤ length h → i < n → Accepted h (ledger R start h m i)
    -- 3. two states are equal exactly when they hold the same acts
    pub exact : (m i m' i' : ℕ) → m ≤ length h → i < n → m' ≤ length h → i' < n
        → (books R start h m i ≡ books R start h m' i') ↔ ((place : ℕ) → ledger R start h m i place ≡ ledger R start h m' i' place)
    -- 4. an act is refused exactly when, and by the number with which, the lone dispatcher is
    pub answered : ActsAnswered h
    -- 5. no take is refused
    pub taken : TakesAccepted h

  -- Demand 3: the claim, for every list of calls
  abbrev pub Demand3 : Type 0
  Demand3 = (h : List (Call R.Act)) → Valid n h → Claim h
