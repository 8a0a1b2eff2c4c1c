-- `compare` goes over the places once, and keeps whether each row has been at least the other so far.
use mathlib.Core.Path.{◌≡◌}
use Rattle.rules.specs.Rows.{at_least, numbers_of}
use Rattle.rows.proofs.compare.Given as goal

abbrev pub invariant-loop-c : goal.invariant-loop-c
invariant-loop-c l =
    (l.mine_above ≡ at_least l.c (numbers_of l.mine) (numbers_of l.copy)) × (l.copy_above ≡ at_least l.c (numbers_of l.copy) (numbers_of l.mine))
