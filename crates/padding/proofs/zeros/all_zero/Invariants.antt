-- `all_zero` goes over all of the numbers, and keeps whether each was 0 so far.
use mathlib.Core.Path.{◌≡◌}
use lib.ListN.{get_or}
use lib.Dec.{eqb}
use Rattle.rules.specs.Loops.{every}
use Rattle.padding.proofs.zeros.all_zero.Given as goal

abbrev pub invariant-loop-number : goal.invariant-loop-number
invariant-loop-number l = l.zero ≡ every l.number-index (λ j. eqb (get_or l.numbers j 0) 0)
