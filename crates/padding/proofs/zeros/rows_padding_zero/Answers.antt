-- `rows_padding_zero` tests the rows of n desks one after the other, and those past them as one range.
use Prim.Native.Nat.{◌+◌, ◌-◌}
use native.Mathlib.Omega.{arith}
use mathlib.Core.Path.{◌≡◌, refl, sym, ◌∙◌}
use borrow.Author.Rules.{rules}
use Rattle.rules.specs.Loops.{every}
use Rattle.rules.proofs.Loops.Logic.{and_left_fails, and_left_holds}
use Rattle.rules.proofs.Loops.Every.{every_next, every_stops}
use Rattle.padding.proofs.Unused.{same_numbers, row_padding, row_at, part_zero, part_padding, unused_places_lem}
use Rattle.padding.proofs.zeros.rows_padding_zero.Goals as goal
use Rattle.padding.proofs.zeros.rows_padding_zero.Goals.{After-row_padding_zero}

row_zero : (c : After-row_padding_zero) → c.row_padding_zero.result ≡ row_padding c.args.numbers.now c.args.n (row_at c.loop-i.i)
row_zero c =
    let at = row_at c.loop-i.i in
    part_padding c.args.numbers.now at (at + 18 - at) c.args.n (rw (same_numbers _ _ c.as_array.ensures.cases c.unwrap.ensures) at c.row_padding_zero.ensures) (omega arith)

pub loop-i-init : goal.loop-i-init
unfolding every
loop-i-init c = refl

pub returns-then-not-row_padding_zero : goal.returns-then-not-row_padding_zero
returns-then-not-row_padding_zero c =
    sym
    (sym (unused_places_lem _ _ (search rules))
    ∙ and_left_fails (every_stops _ _ c.loop-i.i (search rules) (sym (row_zero (goal.at.returns-then-not-row_padding_zero c).After-row_padding_zero) ∙ c.if-not-row_padding_zero.true)) _)

pub loop-i-preserved : goal.loop-i-preserved
loop-i-preserved c = every_next _ _ c.loop-i.invariant (sym (row_zero (goal.at.loop-i-preserved c).After-row_padding_zero) ∙ c.if-not-row_padding_zero.false)

pub returns : goal.returns
returns c =
    let done : c.loop-i.i ≡ c.args.n = omega arith in
    let at = row_at c.args.n in
    part_zero c.args.numbers.now at (163 - at) c.all_zero.ensures (omega arith) (omega arith) ∙ and_left_holds (rw done at c.loop-i.invariant) _
    ∙ unused_places_lem _ _ (search rules)
