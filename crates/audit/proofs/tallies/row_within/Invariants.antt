-- `row_within` goes over all numbers of the row, and keeps whether each was within the limit so far.
use Prim.Native.Nat.{suc}
use mathlib.Core.Path.{◌≡◌}
use lib.Dec.{leb}
use Rattle.rules.specs.Loops.{every}
use Rattle.rules.specs.Numbers.{number}
use Rattle.rules.specs.Pile.{tally_limit}
use Rattle.rules.specs.Layout.{cell_at}
use Rattle.audit.proofs.tallies.row_within.Given as goal

abbrev pub invariant-loop-c : goal.invariant-loop-c
invariant-loop-c l = l.within ≡ every l.c (λ c. leb (number 4 l.body.bytes.now (cell_at l.body.n (suc l.i) c)) tally_limit)
