-- `piles_answer` judges one pile's rows after the other, and stops at the first pile that is refused; an opening's mark stays unset.
use Prim.Native.Nat.{suc, ◌*◌}
use native.Mathlib.Omega.{arith}
use mathlib.Core.Path.{◌≡◌, refl, ◌∙◌}
use Rattle.rules.proofs.Loops.PassedSoFar.{none_asked, next_passed, refused_first}
use Rattle.refusal.proofs.Refused.{number_is_not_0, handed_on}
use Rattle.take.proofs.Marking.{none_marked}
use Rattle.take.proofs.judge.Books.piles_answer.Goals as goal

pub loop-k-init : goal.loop-k-init
loop-k-init c =
    let none : 0 * suc c.args.self.head.desks ≡ 0 = omega arith in
    (none_asked, rw (none, c.requires.blank) (none_marked 288))

pub returns-in_err-desks_answer-clause-answer : goal.returns-in_err-desks_answer-clause-answer
returns-in_err-desks_answer-clause-answer c =
    handed_on c.from_residual.result c.in_err-desks_answer.field-0.0 c.from_residual.ensures.1
    ∙ refused_first c.loop-k.invariant.0 c.loop-k-test.true c.in_err-desks_answer.ensures.answer (number_is_not_0 _)

pub loop-k-preserved : goal.loop-k-preserved
loop-k-preserved c =
    (next_passed c.loop-k.invariant.0 c.loop-k-test.true c.in_ok-desks_answer.ensures.answer refl, c.in_ok-desks_answer.ensures.marks)
