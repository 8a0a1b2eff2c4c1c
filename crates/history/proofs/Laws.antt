-- The five laws of a replica from which demand 3 follows. They speak of lists of entered acts, and of no history.
-- Assumes nothing.
use Prim.Native.Nat.{ℕ, ◌<◌}
use mathlib.Core.Path.{◌≡◌}
use mathlib.Core.Logic.{◌⊎◌}
use mathlib.Core.Bool.{cond}
use mathlib.Core.List.{List, [], ◌∷◌, ◌++◌}
use lib.Dec.{eqb}
use Rattle.history.specs.Replica.{Replica}

-- k is a tail of l: newest first, so an earlier stage of it
abbrev pub Ends : {A : Type 0} → List A → List A → Type 0
Ends {A} k l = (front : List A) × (front ++ k ≡ l)

-- g is the longer of k and l, one of which ends the other
abbrev pub Longer : {A : Type 0} → List A → List A → List A → Type 0
Longer k l g = (Ends l k × (g ≡ k)) ⊎ (Ends k l × (g ≡ l))

-- the acts of desk e among entries (desk, act), newest first
abbrev pub own : {A : Type 0} → ℕ → List (ℕ × A) → List A
own e [] = []
own e (x ∷ es) = cond (eqb x.0 e) (x.1 ∷ own e es) (own e es)

-- the state after entering them in turn
abbrev pub run : (R : Replica) → R.State → List (ℕ × R.Act) → R.State
run R start [] = start
run R start (x ∷ es) = R.after_act x.0 x.1 (run R start es)

-- each is an act of one of the n desks, answered 0 in its turn
abbrev pub Entered : (R : Replica) → ℕ → R.State → List (ℕ × R.Act) → Type 0
Entered R n start [] = Unit {0}
Entered R n start (x ∷ es) = (x.0 < n) × (R.act_answer x.0 x.1 (run R start es) ≡ 0) × Entered R n start es

module _ (R : Replica) (n : ℕ) (Within : R.State → Type 0) (start : R.State) where
  pub record Laws : Type 0 where
    -- a refused act leaves the state as it is
    pub refused : (d : ℕ) (a : R.Act) (s : R.State) → (R.act_answer d a s ≡ 0 → ⊥) → R.after_act d a s ≡ s
    -- what a desk may do, it may still do when others have acted more
    pub monotone : (d : ℕ) (a : R.Act) (es fs : List (ℕ × R.Act)) → d < n → Entered R n start es → Entered R n start fs
        → ((e : ℕ) → Ends (own e es) (own e fs)) → own d es ≡ own d fs
        → R.act_answer d a (run R start es) ≡ 0 → R.act_answer d a (run R start fs) ≡ 0
    -- a take gives what entering each desk's longer list gives, and is not refused
    pub join : (d : ℕ) (es fs gs : List (ℕ × R.Act)) → d < n → Entered R n start es → Entered R n start fs → Entered R n start gs
        → ((e : ℕ) → Longer (own e es) (own e fs) (own e gs)) → Ends (own d fs) (own d es)
        → (R.take_answer d (run R start es) (run R start fs) ≡ 0) × (R.after_take d (run R start es) (run R start fs) ≡ run R start gs)
    -- equal states hold the same acts
    pub equal : (es fs : List (ℕ × R.Act)) → Entered R n start es → Entered R n start fs
        → ((e : ℕ) → Ends (own e es) (own e fs) ⊎ Ends (own e fs) (own e es))
        → run R start es ≡ run R start fs → (e : ℕ) → e < n → own e es ≡ own e fs
    pub bounds : (es : List (ℕ × R.Act)) → Entered R n start es → Within (run R start es)
