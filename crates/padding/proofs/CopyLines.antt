-- Nothing refuses to copy a run that fits.
-- Assumes nothing.
use Prim.Native.Nat.{ℕ, ◌+◌, ◌≤◌}
use mathlib.Core.Path.{refl, ◌≡◌}
use mathlib.Core.List.{List}
use lib.ListN.{length}
use lib.Seq.{sets}
use borrow.Author.Tests.{le-ltb}
use Rattle.rules.specs.Refusals.{◌when◌, ◌or_else◌}
use Rattle.rules.specs.Numbers.{part}
use Rattle.rules.proofs.Loops.Refusals.{when_accepted}
use Rattle.padding.specs.Copies.{copy_answer, after_copy}

pub copy_leaves : (to : ℕ) (out : List ℕ) (from : ℕ) (l : List ℕ) (count : ℕ) → from + count ≤ length l → to + count ≤ length out
    → after_copy to out from l count ≡ sets out to (part from count l)
unfolding copy_answer after_copy ◌when◌ ◌or_else◌
copy_leaves to out from l count there room = when_accepted _ _ _ (rw (le-ltb _ _ there, le-ltb _ _ room) refl)
