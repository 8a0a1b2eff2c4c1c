-- `compare` goes over the places once, and keeps whether each row has been at least the other so far.
use Prim.Native.Nat.{◌*◌}
use native.Mathlib.Omega.{arith}
use mathlib.Core.Path.{◌≡◌, refl, ap₂, sym, ◌∙◌}
use Rattle.rules.specs.Loops.{every}
use Rattle.rules.specs.Rows.{at_least, places, compared}
use Rattle.rules.proofs.Bytes.Numbers.{number_read}
use Rattle.rules.proofs.Take.RowOrder.{order_by, at_least_fails, at_least_stays}
use Rattle.rules.proofs.Take.Compared.{no_row, lengths_differ, by_tests}
use Rattle.rows.proofs.compare.Goals as goal
use Rattle.rows.proofs.compare.Goals.{After-loop-c, then-not-is_row_length-via-then-not-is_row_length, then-not-is_row_length-via-else-not-is_row_length+then-mine-copy, then-x-y, else-x-y, then-y-x, else-y-x}

pub returns-then-not-is_row_length : goal.returns-then-not-is_row_length
returns-then-not-is_row_length c =
    elim c.then-not-is_row_length.branch [
      | then-not-is_row_length-via-then-not-is_row_length w ↦ no_row _ _ (sym c.is_row_length.ensures ∙ w.if-not-is_row_length.true)
      | then-not-is_row_length-via-else-not-is_row_length+then-mine-copy w ↦ lengths_differ _ _ w.if-mine-copy.true
    ]

pub loop-c-init : goal.loop-c-init
unfolding at_least every
loop-c-init c = (refl, refl)

pub loop-c-preserved : goal.loop-c-preserved
loop-c-preserved c =
    let rows = c.args in
    let x-is = number_read 4 rows.mine.now (c.loop-c.c * 4) c.get4-x.ensures in
    let y-is = number_read 4 rows.copy.now (c.loop-c.c * 4) c.get4-y.ensures in (
      elim c.if-x-y.branch [
        | then-x-y w ↦ w.mine_above-is ∙ sym (at_least_fails _ _ _ x-is y-is w.if-x-y.true)
        | else-x-y w ↦ w.mine_above-is ∙ c.loop-c.invariant.0 ∙ sym (at_least_stays _ _ _ x-is y-is w.if-x-y.false)
      ],
      elim c.if-y-x.branch [
        | then-y-x w ↦ w.copy_above-is ∙ sym (at_least_fails _ _ _ y-is x-is w.if-y-x.true)
        | else-y-x w ↦ w.copy_above-is ∙ c.loop-c.invariant.1 ∙ sym (at_least_stays _ _ _ y-is x-is w.if-y-x.false)
      ],
    )

-- past the last place the two tests say which order it is
told : (c : After-loop-c) → let rows = c.args in
    compared rows.mine.now rows.copy.now ≡ order_by c.loop-c.mine_above c.loop-c.copy_above
told c =
    let done : c.loop-c.c ≡ places c.args.mine.now = omega arith in
    by_tests _ _ (sym c.is_row_length.ensures ∙ c.if-not-is_row_length.false) c.if-mine-copy.false
    ∙ ap₂ order_by (sym (rw done at c.loop-c.invariant.0)) (sym (rw done at c.loop-c.invariant.1))

pub returns-in-true-true : goal.returns-in-true-true
returns-in-true-true c = sym (told (goal.at.returns-in-true-true c).After-loop-c ∙ ap₂ order_by c.in-true-true.is-0 c.in-true-true.is-1)

pub returns-in-true-false : goal.returns-in-true-false
returns-in-true-false c = sym (told (goal.at.returns-in-true-false c).After-loop-c ∙ ap₂ order_by c.in-true-false.is-0 c.in-true-false.is-1)

pub returns-in-false-true : goal.returns-in-false-true
returns-in-false-true c = sym (told (goal.at.returns-in-false-true c).After-loop-c ∙ ap₂ order_by c.in-false-true.is-0 c.in-false-true.is-1)

pub returns-in-false-false : goal.returns-in-false-false
returns-in-false-false c = sym (told (goal.at.returns-in-false-false c).After-loop-c ∙ ap₂ order_by c.in-false-false.is-0 c.in-false-false.is-1)
