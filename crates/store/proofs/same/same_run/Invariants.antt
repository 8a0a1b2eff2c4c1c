-- `same_run` goes over the numbers and the book's places together, and keeps whether each was the same so far.
use mathlib.Core.Path.{◌≡◌}
use Rattle.store.proofs.Runs.{Compared}
use Rattle.store.proofs.same.same_run.Given as goal

abbrev pub invariant-loop-bytes : goal.invariant-loop-bytes
invariant-loop-bytes l = (l.bytes-iterator.a.size ≡ 4) × Compared l.book l.numbers l.bytes-iterator.a.rest.now l.bytes-iterator.b.rest.now l.same
