-- `all_zero` goes over all of the numbers, and keeps whether each was 0 so far.
use native.Mathlib.Omega.{arith}
use mathlib.Core.Path.{refl, sym, ◌∙◌}
use borrow.Author.Tests.{eq-eqb, ne_eqb}
use Rattle.rules.specs.Loops.{every}
use Rattle.rules.proofs.Loops.Every.{every_more, every_stops}
use Rattle.padding.proofs.zeros.all_zero.Goals as goal
use Rattle.padding.proofs.zeros.all_zero.Goals.{then-number-ne0, else-number-ne0}

pub loop-number-init : goal.loop-number-init
unfolding every
loop-number-init c = refl

pub loop-number-preserved : goal.loop-number-preserved
loop-number-preserved c =
    elim c.if-number-ne0.branch [
      | then-number-ne0 w ↦ w.zero-is ∙ sym (every_stops _ _ c.loop-number.number-index (omega arith) (ne_eqb _ 0 w.if-number-ne0.true))
      | else-number-ne0 w ↦ w.zero-is ∙ c.loop-number.invariant ∙ sym (every_more _ _ (eq-eqb _ 0 w.if-number-ne0.false))
    ]
