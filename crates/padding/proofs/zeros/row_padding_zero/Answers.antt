-- `row_padding_zero` tests the draw half's places past n, and then the tip half's.
use Prim.Native.Nat.{◌+◌, ◌-◌}
use native.Mathlib.Omega.{arith}
use mathlib.Core.Path.{◌≡◌, sym, ◌∙◌}
use lib.Dec.{eqb}
use lib.ListN.{get_or}
use Rattle.rules.specs.Loops.{every}
use Rattle.rules.proofs.Loops.Logic.{and_left_fails, and_left_holds}
use Rattle.padding.proofs.Unused.{part_zero}
use Rattle.padding.proofs.zeros.row_padding_zero.Goals as goal
use Rattle.padding.proofs.zeros.row_padding_zero.Goals.{After-all_zero}

draw_half : (c : After-all_zero) → let n = c.args.n in c.all_zero.result ≡ every (8 - n) (λ k. eqb (get_or c.args.row.now (2 + n + k) 0) 0)
draw_half c = part_zero c.args.row.now (2 + c.args.n) (10 - (2 + c.args.n)) c.all_zero.ensures (omega arith) (omega arith)

pub returns-then-all_zero : goal.returns-then-all_zero
returns-then-all_zero c =
    let n = c.args.n in
    part_zero c.args.row.now (10 + n) (18 - (10 + n)) c.all_zero-then-all_zero.ensures (omega arith) (omega arith)
    ∙ and_left_holds (sym (draw_half (goal.at.returns-then-all_zero c).After-all_zero) ∙ c.if-all_zero.true) _

pub returns-else-all_zero : goal.returns-else-all_zero
returns-else-all_zero c =
    c.if-all_zero.false ∙ sym (and_left_fails (sym (draw_half (goal.at.returns-else-all_zero c).After-all_zero) ∙ c.if-all_zero.false) _)
