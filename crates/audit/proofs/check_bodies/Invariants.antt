-- `check_bodies` asks one body after the other, and stops at the first that is refused.
use mathlib.Core.Path.{◌≡◌}
use Rattle.rules.specs.Refusals.{first}
use Rattle.rules.specs.Pile.{pile_answer}
use Rattle.audit.specs.Audits.{body_after}
use Rattle.audit.proofs.check_bodies.Given as goal

abbrev pub invariant-loop-k : goal.invariant-loop-k
invariant-loop-k l = first l.k (λ j. pile_answer l.n (body_after l.n l.bytes l.from j)) ≡ 0
