-- Where a body is there it lies within the bytes; and what the tests for one are opened by.
-- Assumes nothing.
use Prim.Native.Nat.{ℕ}
use mathlib.Core.Path.{◌≡◌}
use mathlib.Core.Bool.{true}
use mathlib.Core.List.{List}
use lib.ListN.{length}
use borrow.Author.Tests.{leb-true}
use Rattle.rules.specs.Loops.{◌and◌, between}
use Rattle.rules.specs.Layout.{body_length}
use Rattle.rules.specs.Opening.{body_size}
use Rattle.rules.proofs.Loops.Logic.{in_range, and_left, and_right}
use Rattle.layout.specs.Inner.{BodyWithin}
use Rattle.audit.specs.Audits.{body_there}

pub there_within : {n at : ℕ} {b : List ℕ} → body_there n at (length b) ≡ true → BodyWithin n at b
unfolding body_there
there_within e = record { desks_most = (in_range _ _ _ (and_left _ _ e)).1; within = leb-true _ _ (and_right _ _ e) }

unfoldable pub open_there : Unit {0}
unfolding body_there body_size body_length between ◌and◌
open_there = tt
