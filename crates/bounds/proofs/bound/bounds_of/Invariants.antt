-- `bounds_of` stores one desk's bound after the other.
use mathlib.Core.Path.{◌≡◌}
use lib.ListN.{get_or}
use Rattle.rules.specs.Loops.{list}
use Rattle.rules.specs.Layout.{desk_limit}
use Rattle.rules.specs.Record.{padded}
use Rattle.layout.specs.Sides.{as_side}
use Rattle.bounds.specs.Inner.{kept}
use Rattle.bounds.proofs.bound.bounds_of.Given as goal

abbrev pub invariant-loop-i : goal.invariant-loop-i
invariant-loop-i l = l.bounds ≡ list desk_limit (padded l.i (λ k. kept (as_side l.side) l.floor l.top (get_or l.rights k 0)))
