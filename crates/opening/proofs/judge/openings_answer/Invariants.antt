-- `openings_answer` asks one pile after the other, and stops at the first that is refused.
use mathlib.Core.Bool.{not}
use Rattle.rules.specs.Refusals.{◌when◌}
use Rattle.rules.specs.Pile.{opening_lawful}
use Rattle.rules.proofs.Loops.PassedSoFar.{PassedSoFar}
use Rattle.opening.specs.Inner.{pile_in}
use Rattle.opening.proofs.judge.openings_answer.Given as goal

abbrev pub invariant-loop-k : goal.invariant-loop-k
invariant-loop-k l = PassedSoFar l.given.piles (λ j. 5 when not (opening_lawful l.given.desks (pile_in l.given j))) l.k
