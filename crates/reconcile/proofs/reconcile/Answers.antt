-- `reconcile` walks to the end of both lists, and hands back the counts where nothing is wrong.
use native.Mathlib.Omega.{arith}
use mathlib.Core.Path.{sym, ◌∙◌}
use borrow.Author.Tests.{not-false, ltb-true}
use Rattle.reconcile.proofs.Reconciled.{sized, begun, carried, carried_on, ended, judged, counts_right, refusal_handed_on, handed_done}
use Rattle.reconcile.proofs.reconcile.Goals as goal
use Rattle.reconcile.proofs.reconcile.Goals.{then-not-at_end, else-not-at_end+then-not-at_end-2}

-- both lengths are right
pub start-requires : goal.start-requires
start-requires c = (sized _ (sym c.if-length_wrong.ensures)).0

pub start-requires-2 : goal.start-requires-2
start-requires-2 c = (sized _ (sym c.if-length_wrong-2.ensures)).0

pub loop-walk-init : goal.loop-walk-init
loop-walk-init c = begun (sym c.if-length_wrong.ensures) (sym c.if-length_wrong-2.ensures) c.start.ensures c.start-2.ensures

-- before the last ticket of one of them there is a step
pub step-walk-requires-clause-walked_so_far : goal.step-walk-requires-clause-walked_so_far
step-walk-requires-clause-walked_so_far c = carried c.loop-walk.invariant

pub step-walk-requires-clause-some_left : goal.step-walk-requires-clause-some_left
step-walk-requires-clause-some_left c =
    let p = carried c.loop-walk.invariant in
    elim c.if-not-at_end.branch [
      | then-not-at_end w ↦ omega (arith, p.of_bridge.standing.within, p.of_desk.standing.within, ltb-true _ _ (not-false _ (sym w.if-not-at_end.ensures)))
      | else-not-at_end+then-not-at_end-2 w ↦ omega (arith, p.of_bridge.standing.within, p.of_desk.standing.within, ltb-true _ _ (not-false _ (sym w.if-not-at_end-2.ensures)))
    ]

pub loop-walk-smaller : goal.loop-walk-smaller
loop-walk-smaller c =
    let p = carried_on c.loop-walk.invariant c.step-walk.ensures.walked in
    omega (arith, c.step-walk.ensures.further, p.of_bridge.standing.within, p.of_desk.standing.within)

pub loop-walk-preserved : goal.loop-walk-preserved
loop-walk-preserved c = carried_on c.loop-walk.invariant c.step-walk.ensures.walked

-- past the last ticket of both lists the cursors' answer is that of the lists
pub returns-in_err-judge : goal.returns-in_err-judge
returns-in_err-judge c =
    let p = c.loop-walk.invariant in
    let end = ended p.of_bridge.standing c.if-not-at_end.ensures in
    let end' = ended p.of_desk.standing c.if-not-at_end-2.ensures in
    refusal_handed_on _ _ _ _ c.from_residual.ensures.1
    (c.in_err-judge.ensures ∙ judged p end end' (sym c.if-length_wrong.ensures) (sym c.if-length_wrong-2.ensures))

pub returns : goal.returns
returns c =
    let p = c.loop-walk.invariant in
    let end = ended p.of_bridge.standing c.if-not-at_end.ensures in
    let end' = ended p.of_desk.standing c.if-not-at_end-2.ensures in
    let accepted = c.in_ok-judge.ensures ∙ judged p end end' (sym c.if-length_wrong.ensures) (sym c.if-length_wrong-2.ensures) in
    counts_right p end end' (sym accepted) ∙ handed_done _ _ accepted
