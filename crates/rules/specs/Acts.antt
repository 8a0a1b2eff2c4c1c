-- The four acts: tip, draw, give draw rights, give tip rights.
-- Assumes nothing.
use Rattle.std.specs.Prelude.{ℕ, ◌+◌, Bool, false, not, ltb, eqb}
use Rattle.rules.specs.Loops.{◌or◌}
use Rattle.rules.specs.Refusals.{◌when◌, ◌or_else◌}
use Rattle.rules.specs.Pile.{Side, other, Pile, rights, tally_limit, amount_limit}

-- Tipping spends tip rights and drawing spends draw rights; a give moves rights of a side to a receiver (Figure 1's transfer).
pub data Kind : Type 0 where
  spend : Side → Kind
  give : Side → (receiver : ℕ) → Kind

-- an act's arguments but for its desk; the pile goes by its number
pub record Act : Type 0 where
  pub kind : Kind
  pub pile : ℕ
  pub amount : ℕ

-- the side whose rights an act needs
abbrev pub side : Kind → Side
side (spend s) = s
side (give s j) = s

-- the one tally that an act of desk i adds to: spending rights of a side earns those of the other
abbrev pub tally : Pile → ℕ → Kind → ℕ
tally p i (spend s) = p.earned (other s) i
tally p i (give s j) = p.give s i j

-- receiver ≥ n, or the giver itself
abbrev pub receiver_wrong : ℕ → ℕ → Kind → Bool
receiver_wrong n i (spend s) = false
receiver_wrong n i (give s j) = not (ltb j n) or eqb j i

-- 12 to 15, for desk i and an amount of t
unfoldable pub act_refusal : ℕ → Pile → ℕ → Kind → ℕ → ℕ
act_refusal n p i kind t =
    12 when receiver_wrong n i kind
    or_else 13 when (eqb t 0 or ltb amount_limit t)
    or_else 14 when ltb (rights n p (side kind) i) t
    or_else 15 when ltb tally_limit (tally p i kind + t)
