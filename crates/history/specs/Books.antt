-- What each desk has at each moment of a history.
-- Assumes nothing.
use Rattle.std.specs.Prelude.{ℕ, cond, List, [], ◌∷◌, length, leb, eqb}
use Rattle.history.specs.Replica.{Replica, Call, act, take, caller}

-- What desk i has at moment m, where each desk starts with x, and a call c after the history h gives its desk `step h c known`;
-- `known` is what every desk had at every moment until then. All other desks keep theirs.
unfoldable pub at : {A X : Type 0} → X → (List (Call A) → Call A → (ℕ → ℕ → X) → X) → List (Call A) → ℕ → ℕ → X
at x step [] m i = x
at x step (c ∷ h) m i =
    cond (leb m (length h)) (at x step h m i) (cond (eqb i (caller c)) (step h c (at x step h)) (at x step h (length h) i))

module _ (R : Replica) where
  -- A call gets its desk's state as that desk's last call left it, and a copy has the state of its moment.
  abbrev pub called : List (Call R.Act) → Call R.Act → (ℕ → ℕ → R.State) → R.State
  called h (act d a) known = R.after_act d a (known (length h) d)
  called h (take d e m) known = R.after_take d (known (length h) d) (known m e)

  -- the state of desk i at moment m of the history h
  unfoldable pub books : R.State → List (Call R.Act) → ℕ → ℕ → R.State
  books start h m i = at start called h m i
