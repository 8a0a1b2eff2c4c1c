-- `put_contents` writes one entry after the other, each behind the one before it.
use Rattle.rules.proofs.Loops.Writing.{Written}
use Rattle.opening.proofs.Opened.{entry}
use Rattle.opening.proofs.front.put_contents.Given as goal

abbrev pub invariant-loop-k : goal.invariant-loop-k
invariant-loop-k l = Written l.initial.out 4 l.given.piles (entry l.given) l.k l.out
