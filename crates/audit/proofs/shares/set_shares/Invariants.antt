-- `set_shares` reads one share after the other, adds it to the sum and puts it in its place.
use Prim.Native.Nat.{◌*◌, ◌≤◌}
use mathlib.Core.Path.{◌≡◌}
use Rattle.rules.specs.Loops as loops
use Rattle.layout.specs.Sides.{as_side}
use Rattle.audit.specs.Inner.{pile_of, SharesSet}
use Rattle.audit.proofs.shares.set_shares.Given as goal

abbrev pub invariant-loop-j : goal.invariant-loop-j
invariant-loop-j l =
    let share = (pile_of l.body).share (as_side l.side) in
    (l.sum ≡ loops.sum l.j share) × (l.sum ≤ l.j * 4294967296) × SharesSet l.j share l.totals
