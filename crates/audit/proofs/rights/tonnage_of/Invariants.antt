-- `tonnage_of` adds up the draw shares and what was tipped, and what was drawn, of one desk after the other.
use Prim.Native.Nat.{◌+◌, ◌*◌, ◌≤◌}
use mathlib.Core.Path.{◌≡◌}
use Rattle.rules.specs.Loops.{sum}
use Rattle.rules.specs.Pile.{draw, tip}
use Rattle.audit.specs.Inner.{pile_of}
use Rattle.audit.proofs.rights.tonnage_of.Given as goal

abbrev pub invariant-loop-i : goal.invariant-loop-i
invariant-loop-i l =
    let p = pile_of l.body in
    (l.had ≤ (2 * l.i + 1) * 4294967295) × (l.drawn ≤ l.i * 4294967295)
    × (l.had ≡ p.floor + sum l.i (p.share draw) + sum l.i (p.earned draw)) × (l.drawn ≡ sum l.i (p.earned tip))
