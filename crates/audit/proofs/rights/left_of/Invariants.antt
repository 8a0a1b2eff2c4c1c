-- `left_of` adds up what a desk's rights are made of: what it had at first, and desk by desk what it got and what it gave.
use Prim.Native.Nat.{◌+◌, ◌*◌, ◌≤◌}
use mathlib.Core.Path.{◌≡◌}
use Rattle.rules.specs.Loops.{sum}
use Rattle.rules.specs.Pile.{other}
use Rattle.layout.specs.Sides.{as_side}
use Rattle.audit.specs.Inner.{pile_of}
use Rattle.audit.proofs.rights.left_of.Given as goal

abbrev pub invariant-loop-j : goal.invariant-loop-j
invariant-loop-j l =
    let p = pile_of l.body in
    let s = as_side l.side in
    (l.credit ≤ (l.j + 2) * 4294967296) × (l.debit ≤ (l.j + 1) * 4294967296)
    × (l.credit ≡ p.share s l.i + p.earned s l.i + sum l.j (λ k. p.give s k l.i)) × (l.debit ≡ sum l.j (p.give s l.i) + p.earned (other s) l.i)
