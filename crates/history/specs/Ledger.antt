-- The ledger and the lone dispatcher: the sequential execution that a history is held against.
-- The ledger knows the starting state and the calls' arguments, and never a desk's state.
-- Assumes nothing.
use Rattle.std.specs.Prelude.{ℕ, Bool, false, cond, ◌||◌, List, [], ◌∷◌, length, eqb}
use Rattle.history.specs.Replica.{Replica, Call, act, take}
use Rattle.history.specs.Books.{at}

-- A set of acts, by their places in the list: like acts at two places are two acts.
abbrev pub Acts : Type 0
Acts = ℕ → Bool

abbrev pub none : Acts
none place = false

-- the set with one place more, and with another set
abbrev pub joined : ℕ → Acts → Acts
joined new S place = eqb place new || S place

abbrev pub gained : Acts → Acts → Acts
gained S T place = S place || T place

module _ (R : Replica) (start : R.State) where
  -- a take is no act, and enters nothing
  abbrev pub enter : Call R.Act → R.State → R.State
  enter (act d a) s = R.after_act d a s
  enter (take d e m) s = s

  -- the lone dispatcher's state: the set's acts entered one by one, in the order of the list
  unfoldable pub lone : List (Call R.Act) → Acts → R.State
  lone [] S = start
  lone (c ∷ h) S = cond (S (length h)) (enter c (lone h S)) (lone h S)

  -- What a call does to its desk's set.
  -- An act joins where the lone dispatcher, with what the desk holds, is not refused it.
  abbrev pub held_after : List (Call R.Act) → Call R.Act → (ℕ → ℕ → Acts) → Acts
  held_after h (act d a) known =
      cond (eqb (R.act_answer d a (lone h (known (length h) d))) 0) (joined (length h) (known (length h) d)) (known (length h) d)
  held_after h (take d e m) known = gained (known (length h) d) (known m e)

  -- the set of acts that desk i holds at moment m of the history h
  unfoldable pub ledger : List (Call R.Act) → ℕ → ℕ → Acts
  ledger h m i = at none held_after h m i
