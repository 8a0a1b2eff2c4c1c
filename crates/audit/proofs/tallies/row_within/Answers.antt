-- `row_within` goes over all numbers of the row, and keeps whether each was within the limit so far.
use native.Mathlib.Numerals.{add-one}
use native.Mathlib.Omega.{arith}
use mathlib.Core.Path.{refl, sym, ◌∙◌}
use borrow.Author.Tests.{le-leb, lt-leb}
use Rattle.rules.specs.Loops.{every}
use Rattle.rules.proofs.Loops.Every.{every_more, every_stops}
use Rattle.audit.proofs.tallies.row_within.Goals as goal
use Rattle.audit.proofs.tallies.row_within.Goals.{then-from-gt-TALLY_LIMIT, else-from-gt-TALLY_LIMIT}

pub loop-c-init : goal.loop-c-init
unfolding every
loop-c-init c = refl

pub loop-c-preserved : goal.loop-c-preserved
loop-c-preserved c =
    elim c.if-from-gt-TALLY_LIMIT.branch [
      | then-from-gt-TALLY_LIMIT w ↦ w.within-is ∙ sym (every_stops _ _ c.loop-c.c (omega arith) (lt-leb _ _ (rw (c.from.ensures, c.cell.ensures, add-one c.args.i) at w.if-from-gt-TALLY_LIMIT.true)))
      | else-from-gt-TALLY_LIMIT w ↦ w.within-is ∙ c.loop-c.invariant ∙ sym (every_more _ _ (le-leb _ _ (rw (c.from.ensures, c.cell.ensures, add-one c.args.i) at w.if-from-gt-TALLY_LIMIT.false)))
    ]
