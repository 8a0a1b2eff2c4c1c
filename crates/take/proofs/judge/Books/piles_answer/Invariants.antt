-- `piles_answer` judges one pile's rows after the other, and stops at the first pile that is refused; an opening's mark stays unset.
use Rattle.rules.specs.Refusals.{first}
use Rattle.rules.proofs.Loops.PassedSoFar.{PassedSoFar}
use Rattle.take.specs.Inner.{desk_told, PilesMarked}
use Rattle.take.proofs.judge.Books.piles_answer.Given as goal

abbrev pub invariant-loop-k : goal.invariant-loop-k
invariant-loop-k l =
    let b = l.fn.self in
    PassedSoFar b.head.piles (λ k. first b.head.desks (desk_told b l.desk k)) l.k × PilesMarked b l.k l.marks
