-- `read_rows` adds up one row after the other, for both sides.
use Prim.Native.Nat.{◌+◌, ◌*◌, ◌≤◌}
use mathlib.Core.Path.{◌≡◌}
use Rattle.rules.specs.Loops.{sum}
use Rattle.rules.specs.Pile.{draw, tip}
use Rattle.audit.specs.Inner.{pile_of, RowsRead}
use Rattle.audit.proofs.tallies.read_rows.Given as goal

abbrev pub invariant-loop-i : goal.invariant-loop-i
invariant-loop-i l =
    let p = pile_of l.body in
    RowsRead p l.body.n l.i l.totals × (l.own ≡ sum l.i (λ k. p.give draw k k + p.give tip k k)) × (l.own ≤ l.i * 8589934592)
