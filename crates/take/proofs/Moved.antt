-- What a row becomes: the copy's where it is marked, and otherwise what it is.
-- Assumes nothing.
use Prim.Native.Nat.{ℕ}
use mathlib.Core.Path.{◌≡◌}
use mathlib.Core.Bool.{Bool, true, false, cond}
use mathlib.Core.List.{List}
use lib.ListN.{length}
use Rattle.rules.specs.Numbers.{part}
use Rattle.rules.proofs.Loops.Parts.{length_part}
use Rattle.take.specs.Inner.{InBoth}

abbrev pub moved : List ℕ → List ℕ → ℕ → ℕ → Bool → List ℕ
moved own copy at row marked = cond marked (part at row copy) (part at row own)

pub moved_long : {own copy : List ℕ} {at row : ℕ} → InBoth at row own copy → (marked : Bool) → length (moved own copy at row marked) ≡ row
moved_long {own} {copy} {at} {row} fits true = length_part at row copy fits.in_copy
moved_long {own} {copy} {at} {row} fits false = length_part at row own fits.in_own
