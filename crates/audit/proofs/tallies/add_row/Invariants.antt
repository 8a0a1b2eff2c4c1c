-- `add_row` adds one number after the other, to the sum and to the total at its place.
use Prim.Native.Nat.{ℕ, ◌*◌, ◌≤◌}
use mathlib.Core.Path.{◌≡◌}
use lib.ListN.{get_or}
use Rattle.rules.specs.Loops as loops
use Rattle.layout.specs.Sides.{as_side}
use Rattle.audit.specs.Inner.{pile_of, RowAdded}
use Rattle.audit.proofs.tallies.add_row.Given as goal

abbrev pub invariant-loop-j : goal.invariant-loop-j
invariant-loop-j l =
    let given = (pile_of l.body).give (as_side l.side) l.i in
    (l.sum ≡ loops.sum l.j given) × (l.sum ≤ l.j * 4294967296) × RowAdded l.j given l.initial.totals l.totals
    × ((k : ℕ) → l.j ≤ k → get_or l.totals k 0 ≡ get_or l.initial.totals k 0)
