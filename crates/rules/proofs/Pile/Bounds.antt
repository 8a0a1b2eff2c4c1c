-- The bounds that a desk's rights keep: there is room for its rights between floor and top, and the tonnage known lies between its least and its most.
-- Assumes nothing.
use Prim.Native.Nat.{ℕ, ◌+◌, ◌≤◌, ◌<◌}
use native.Mathlib.Omega.{arith}
use Rattle.rules.specs.Pile.{Side, draw, tip, Pile, rights, tonnage}
use Rattle.rules.specs.Bounds.{least, most}
use Rattle.rules.proofs.Loops.Sums.{term_le}
use Rattle.rules.proofs.Pile.Facts.{PileFacts}
use Rattle.rules.proofs.Pile.Tonnage.{tonnage_floor, tonnage_top, tonnage_within}

-- of a lawful pile
module _ (n : ℕ) (p : Pile) (f : PileFacts n p) where
  -- whatever the side, there is room for a desk's rights between floor and top
  pub rights_room : (s : Side) (i : ℕ) → i < n → p.floor + rights n p s i ≤ p.top
  rights_room draw i l = omega (arith, term_le n i (rights n p draw) l, tonnage_floor n p f, (tonnage_within n p f).1)
  rights_room tip i l = omega (arith, term_le n i (rights n p tip) l, tonnage_top n p f, (tonnage_within n p f).0)

  -- the tonnage known, by the acts that the book holds, lies between each desk's least and most
  pub least_known : (i : ℕ) → i < n → least n p i ≤ tonnage n p
  unfolding least
  least_known i l = omega (arith, term_le n i (rights n p draw) l, tonnage_floor n p f)

  pub known_most : (i : ℕ) → i < n → tonnage n p ≤ most n p i
  unfolding most
  known_most i l = omega (arith, term_le n i (rights n p tip) l, tonnage_top n p f)
