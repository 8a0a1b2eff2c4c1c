-- `numbers_rise` tests one number after the other against the one before it and the highest, and stops at the first that is wrong.
use mathlib.Core.Path.{◌∙◌}
use Rattle.rules.proofs.File.Risen.{none_risen, next_risen}
use Rattle.opening.proofs.judge.numbers_rise.Goals as goal

pub loop-k-init : goal.loop-k-init
loop-k-init c = none_risen

pub loop-k-preserved : goal.loop-k-preserved
loop-k-preserved c =
    next_risen c.loop-k.invariant c.loop-k-test.true (c.number-number.ensures ∙ c.pile.ensures.number) c.if-number-last.false c.if-number-gt-LAST_NUMBER.false
