-- `pack_rows` writes each row in two runs, one row behind the other.
use Prim.Native.Nat.{suc, ◌+◌}
use native.Mathlib.Omega.{arith}
use borrow.Author.Rules.{rules}
use Rattle.rules.specs.Numbers.{encode}
use Rattle.rules.proofs.Loops.Writing.{Written, none_written, all_written}
use Rattle.padding.specs.Inner.{packed_row}
use Rattle.padding.proofs.PackedRows.{next_packed}
use Rattle.padding.proofs.Halves.{tips_at, row_there, row_behind}
use Rattle.padding.proofs.packed.pack_rows.Goals as goal
use Rattle.padding.proofs.packed.pack_rows.Goals.{After-pack_run-in-loop-r}

written : (c : After-pack_run-in-loop-r)
    → let a = c.args in Written a.bytes.now a.at (suc a.n) (λ r. encode (packed_row a.n a.numbers.now r)) (c.loop-r.r + 1) c.pack_run-in-loop-r.new.bytes
written c =
    next_packed c.args.n c.args.numbers.now c.loop-r.invariant.1 (omega arith) c.column-front.ensures c.cell_at-tips.ensures c.loop-r.invariant.0
    c.from.ensures c.from-in-loop-r.ensures c.from-in-loop-r-2.ensures c.pack_run.ensures c.pack_run-in-loop-r.ensures

pub loop-r-init : goal.loop-r-init
loop-r-init c = (omega arith, none_written)

pub pack_run-requires : goal.pack_run-requires
pack_run-requires c =
    search (rules, row_there c.args.n c.args.at c.loop-r.r c.loop-r.invariant.0 (omega arith) c.requires.within)

pub overflow_add-to : goal.overflow_add-to
overflow_add-to c =
    search (rules, row_there c.args.n c.args.at c.loop-r.r c.loop-r.invariant.0 (omega arith) c.requires.within, tips_at c.args.n c.column-front.ensures c.cell_at-tips.ensures)

pub pack_run-requires-in-loop-r : goal.pack_run-requires-in-loop-r
pack_run-requires-in-loop-r c =
    search (rules, row_there c.args.n c.args.at c.loop-r.r c.loop-r.invariant.0 (omega arith) c.requires.within, tips_at c.args.n c.column-front.ensures c.cell_at-tips.ensures)

pub overflow_add-to-in-loop-r : goal.overflow_add-to-in-loop-r
overflow_add-to-in-loop-r c =
    search (rules, row_there c.args.n c.args.at c.loop-r.r c.loop-r.invariant.0 (omega arith) c.requires.within, row_behind c.args.n c.args.at c.loop-r.r c.loop-r.invariant.0 c.row_length-size.ensures)

pub loop-r-preserved : goal.loop-r-preserved
loop-r-preserved c = (row_behind c.args.n c.args.at c.loop-r.r c.loop-r.invariant.0 c.row_length-size.ensures, written (goal.at.loop-r-preserved c).After-pack_run-in-loop-r)

-- the last row
pub returns-2 : goal.returns-2
returns-2 c = all_written (written (goal.at.returns-2 c).After-pack_run-in-loop-r) (omega arith)
