-- A bound made of floor, top and rights is the pile's.
-- Assumes nothing.
use Prim.Native.Nat.{ℕ}
use mathlib.Core.Path.{◌≡◌, refl}
use Rattle.rules.specs.Pile.{Side, draw, tip, Pile, rights}
use Rattle.rules.specs.Bounds.{least, most, bound}
use Rattle.bounds.specs.Inner.{kept}

pub kept_bound : (n : ℕ) (p : Pile) (s : Side) (i : ℕ) → bound n p s i ≡ kept s p.floor p.top (rights n p s i)
unfolding least most
kept_bound n p draw i = refl
kept_bound n p tip i = refl
