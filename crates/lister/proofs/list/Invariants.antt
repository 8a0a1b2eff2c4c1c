-- `list` goes over the piles of a book that was checked, and so has at most 8 desks.
use Rattle.std.proofs.Common.{◌≤◌}
use Rattle.rules.specs.Layout.{desk_limit}
use Rattle.lister.proofs.list.Given as goal

abbrev pub invariant-loop-k : goal.invariant-loop-k
invariant-loop-k g l = l.head.desks ≤ desk_limit
