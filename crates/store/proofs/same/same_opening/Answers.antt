-- `same_opening` compares floor, top and the draw shares, which stand side by side, and then the tip shares.
use Prim.Native.Nat.{ℕ, ◌+◌, ◌-◌, ◌*◌}
use native.Mathlib.Omega.{arith}
use mathlib.Core.Path.{◌≡◌, refl, sym, ◌∙◌}
use Rattle.rules.specs.Loops.{every}
use Rattle.rules.proofs.Loops.Logic.{and_left_fails, and_left_holds}
use Rattle.padding.proofs.Halves.{front_is}
use Rattle.store.proofs.Runs.{parts_compared}
use Rattle.store.proofs.OpeningRuns.{first_run, same_runs}
use Rattle.store.proofs.same.same_opening.Goals as goal
use Rattle.store.proofs.same.same_opening.Goals.{After-same_run}

-- what comparing the numbers before those of tip told
first : (c : After-same_run) → let a = c.args in c.same_run.result ≡ every c.from-columns.result (first_run a.book.now a.at a.numbers.now)
first c =
    let m = c.from-columns.result in
    let at = c.args.at in
    parts_compared c.args.book.now c.args.numbers.now at 1 m (at + m * 4 - at) (1 + m - 1) c.same_run.ensures (omega arith) (omega arith)
    (omega (arith, front_is c.args.n c.column-front.ensures, c.from-columns.ensures, c.requires.desks_most, c.requires.all_there))

pub returns-else-same_run : goal.returns-else-same_run
returns-else-same_run c =
    let runs = same_runs c.args.numbers.now _ _ _ c.requires.desks_most c.column-front.ensures c.from-columns.ensures refl refl in
    c.if-same_run.false ∙ sym (runs ∙ and_left_fails (sym (first (goal.at.returns-else-same_run c).After-same_run) ∙ c.if-same_run.false) _)

pub returns-then-same_run : goal.returns-then-same_run
returns-then-same_run c =
    let runs = same_runs c.args.numbers.now c.args.book.now c.args.at _ c.requires.desks_most c.column-front.ensures c.from-columns.ensures c.cell_at.ensures c.from-desks.ensures in
    let m = c.from-desks.result in
    let at : ℕ = c.args.at + c.cell_at.result in
    parts_compared c.args.book.now c.args.numbers.now at 11 m (at + m * 4 - at) (11 + m - 11) c.same_run-then-same_run.ensures (omega arith) (omega arith)
    (omega (arith, c.from-desks.ensures, c.requires.desks_most, c.requires.all_there))
    ∙ and_left_holds (sym (first (goal.at.returns-then-same_run c).After-same_run) ∙ c.if-same_run.true) _ ∙ sym runs
