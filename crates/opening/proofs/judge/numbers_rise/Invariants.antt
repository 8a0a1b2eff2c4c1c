-- `numbers_rise` tests one number after the other against the one before it and the highest, and stops at the first that is wrong.
use Rattle.rules.proofs.File.Risen.{Risen}
use Rattle.opening.specs.Inner.{number_in}
use Rattle.opening.proofs.judge.numbers_rise.Given as goal

abbrev pub invariant-loop-k : goal.invariant-loop-k
invariant-loop-k l = Risen l.given.piles (number_in l.given) l.k l.last
