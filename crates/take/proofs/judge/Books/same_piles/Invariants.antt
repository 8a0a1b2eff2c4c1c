-- `same_piles` tests one pile after the other, its number and then its opening row, and stops at the first that differs.
use mathlib.Core.Path.{◌≡◌}
use mathlib.Core.Bool.{true}
use Rattle.rules.specs.Loops.{every}
use Rattle.layout.specs.Positions.{as_head, body_position}
use Rattle.take.specs.Inner.{same_pile}
use Rattle.take.proofs.judge.Books.same_piles.Given as goal

abbrev pub invariant-loop-k : goal.invariant-loop-k
invariant-loop-k l = (l.at ≡ body_position (as_head l.fn.self.head) l.k) × (every l.k (same_pile l.fn.self) ≡ true)
