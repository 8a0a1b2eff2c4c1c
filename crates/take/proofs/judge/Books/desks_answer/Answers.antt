-- `desks_answer` judges one desk's rows after the other and marks those that are later in the copy; it stops at the first that are refused.
use Prim.Native.Nat.{suc, ◌+◌, ◌*◌, ◌<◌}
use native.Mathlib.Omega.{arith}
use mathlib.Core.Path.{◌≡◌, refl, ◌∙◌}
use Rattle.rules.proofs.Loops.Ranges.{piece_within}
use Rattle.rules.proofs.Loops.PassedSoFar.{none_asked, next_passed, refused_first}
use Rattle.rules.proofs.Take.RowBytes.{is_row_length_lem}
use Rattle.refusal.proofs.Refused.{number_is_not_0, handed_on}
use Rattle.take.proofs.Marking.{row_in_both, next_marked, next_unmarked}
use Rattle.take.proofs.judge.Books.desks_answer.Goals as goal
use Rattle.take.proofs.judge.Books.desks_answer.Goals.{After-from-in-loop-i, In-loop-i}

-- the number of this turn's row, as it is computed and by the pile and the desk
place : (c : After-from-in-loop-i) → let a = c.args in
    c.from.result * (c.from-2.result + 1) + 1 + c.from-in-loop-i.result ≡ a.k * suc a.self.head.desks + suc c.loop-i.i
place c = rw (c.from.ensures, c.from-2.ensures, c.from-in-loop-i.ensures) (omega arith)

among : (c : In-loop-i) → let a = c.args in a.k * suc a.self.head.desks + suc c.loop-i.i < a.self.head.piles * suc a.self.head.desks
among c = omega (arith, piece_within (suc c.args.self.head.desks) c.requires.pile, c.loop-i-test.true)

pub loop-i-init : goal.loop-i-init
loop-i-init c = (none_asked, next_unmarked c.requires.before (c.requires.piles.openings _ c.requires.pile))

pub judge_row-requires : goal.judge_row-requires
judge_row-requires c =
    let at = goal.at.judge_row-requires c in
    let piles = c.requires.piles in
    rw (place at.After-from-in-loop-i, c.front_length-front.ensures, c.row_length-row.ensures) (record {
      within = row_in_both piles.rows _ (among at.In-loop-i);
      is_row = is_row_length_lem _ piles.sizes.desks_least piles.sizes.desks_most;
    })

pub returns-in_err-marks-clause-answer : goal.returns-in_err-marks-clause-answer
returns-in_err-marks-clause-answer c =
    let at = goal.at.returns-in_err-marks-clause-answer c in
    handed_on c.from_residual.result c.in_err-marks.field-0.0 c.from_residual.ensures.1
    ∙ refused_first c.loop-i.invariant.0 c.loop-i-test.true
    (rw (place at.After-from-in-loop-i, c.front_length-front.ensures, c.row_length-row.ensures) at c.in_err-marks.ensures.answer) (number_is_not_0 _)

pub loop-i-preserved : goal.loop-i-preserved
loop-i-preserved c =
    let at = goal.at.loop-i-preserved c in
    let inv = c.loop-i.invariant in
    let here = place at.After-from-in-loop-i in
    let opening = c.args.k * suc c.args.self.head.desks in
    let next : opening + suc (c.loop-i.i + 1) ≡ opening + suc c.loop-i.i + 1 = omega arith in (
      next_passed inv.0 c.loop-i-test.true (rw (here, c.front_length-front.ensures, c.row_length-row.ensures) at c.in_ok-marks.ensures.answer) refl,
      rw next
          (next_marked inv.1 (omega (arith, among at.In-loop-i, c.requires.piles.rows.count_most)) here
          (rw (here, c.front_length-front.ensures, c.row_length-row.ensures) at c.in_ok-marks.ensures.later)),
    )
