-- All acts made so far, by any desk, and the state that they make (field term: the global state).
-- No desk need have it; a desk's own state can be held against it.
-- Assumes nothing.
use Rattle.std.specs.Prelude.{ℕ, zero, suc, List}
use Rattle.history.specs.Replica.{Replica, Call}
use Rattle.history.specs.Ledger.{Acts, none, gained, lone, ledger}

-- the union of n sets
unfoldable pub unions : ℕ → (ℕ → Acts) → Acts
unions zero sets = none
unions (suc n) sets = gained (unions n sets) (sets n)

module _ (R : Replica) (n : ℕ) (start : R.State) where
  -- all acts made until moment m: what the n desks then hold together
  unfoldable pub made : List (Call R.Act) → ℕ → Acts
  made h m = unions n (λ i. ledger R start h m i)

  -- the lone dispatcher's state for them
  unfoldable pub global : List (Call R.Act) → ℕ → R.State
  global h m = lone R start h (made h m)
