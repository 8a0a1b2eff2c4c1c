-- `openings_answer` asks one pile after the other, and stops at the first that is refused.
use mathlib.Core.Path.{refl, ◌∙◌}
use Rattle.rules.proofs.Loops.PassedSoFar.{none_asked, next_passed, refused_first}
use Rattle.refusal.proofs.Refused.{handed_on, number_is_not_0}
use Rattle.opening.proofs.judge.openings_answer.Goals as goal

pub loop-k-init : goal.loop-k-init
loop-k-init c = none_asked

pub returns-in_err-record : goal.returns-in_err-record
returns-in_err-record c =
    let refusal = c.in_err-record.field-0.0 in
    handed_on c.from_residual.result refusal c.from_residual.ensures.1
    ∙ refused_first c.loop-k.invariant c.loop-k-test.true (rw (c.pile.ensures.pile, c.pile.ensures.desks) at c.in_err-record.ensures.answer) (number_is_not_0 refusal)

pub loop-k-preserved : goal.loop-k-preserved
loop-k-preserved c = next_passed c.loop-k.invariant c.loop-k-test.true (rw (c.pile.ensures.pile, c.pile.ensures.desks) at c.in_ok-record.ensures.answer) refl
