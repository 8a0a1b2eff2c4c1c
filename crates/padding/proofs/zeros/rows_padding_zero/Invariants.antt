-- `rows_padding_zero` tests the rows of n desks one after the other, and those past them as one range.
use mathlib.Core.Path.{◌≡◌}
use mathlib.Core.Bool.{true}
use Rattle.rules.specs.Loops.{every}
use Rattle.padding.proofs.Unused.{row_padding, row_at}
use Rattle.padding.proofs.zeros.rows_padding_zero.Given as goal

abbrev pub invariant-loop-i : goal.invariant-loop-i
invariant-loop-i l = every l.i (λ j. row_padding l.numbers l.n (row_at j)) ≡ true
