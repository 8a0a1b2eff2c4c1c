-- `pad_rows` reads one row after the other.
use Prim.Native.Nat.{◌+◌}
use native.Mathlib.Omega.{arith}
use borrow.Author.Rules.{rules}
use Rattle.rules.specs.Numbers.{number}
use Rattle.rules.specs.Layout.{cell_at}
use Rattle.padding.proofs.PaddedRows.{Rows, no_rows, next_padded, all_rows}
use Rattle.padding.proofs.Halves.{tips_at, row_there, row_behind}
use Rattle.padding.proofs.padded.pad_rows.Goals as goal
use Rattle.padding.proofs.padded.pad_rows.Goals.{After-pad_run-in-loop-r}

read : (c : After-pad_run-in-loop-r) → let a = c.args in Rows a.n (λ row column. number 4 a.bytes.now (a.at + cell_at a.n row column)) (c.loop-r.r + 1) c.pad_run-in-loop-r.new.out
read c =
    next_padded c.args.n c.args.at c.args.bytes.now c.requires.desks_most c.loop-r.invariant.1 (omega arith) c.column-front.ensures c.cell_at-tips.ensures
    c.loop-r.invariant.0 c.from-to.ensures c.from.ensures c.from-in-loop-r.ensures c.pad_run.ensures c.pad_run-in-loop-r.ensures

pub loop-r-init : goal.loop-r-init
loop-r-init c = (omega arith, no_rows _ _ c.requires.zeros)

pub pad_run-requires : goal.pad_run-requires
pad_run-requires c =
    search (rules, row_there c.args.n c.args.at c.loop-r.r c.loop-r.invariant.0 (omega arith) c.requires.within, c.loop-r.invariant.1)

pub overflow_add-from : goal.overflow_add-from
overflow_add-from c =
    search (rules, row_there c.args.n c.args.at c.loop-r.r c.loop-r.invariant.0 (omega arith) c.requires.within, tips_at c.args.n c.column-front.ensures c.cell_at-tips.ensures)

pub pad_run-requires-in-loop-r : goal.pad_run-requires-in-loop-r
pad_run-requires-in-loop-r c =
    search (rules, row_there c.args.n c.args.at c.loop-r.r c.loop-r.invariant.0 (omega arith) c.requires.within, tips_at c.args.n c.column-front.ensures c.cell_at-tips.ensures, c.loop-r.invariant.1)

pub overflow_add-from-in-loop-r : goal.overflow_add-from-in-loop-r
overflow_add-from-in-loop-r c =
    search (rules, row_there c.args.n c.args.at c.loop-r.r c.loop-r.invariant.0 (omega arith) c.requires.within, row_behind c.args.n c.args.at c.loop-r.r c.loop-r.invariant.0 c.row_length-size.ensures)

pub loop-r-preserved : goal.loop-r-preserved
loop-r-preserved c = (row_behind c.args.n c.args.at c.loop-r.r c.loop-r.invariant.0 c.row_length-size.ensures, read (goal.at.loop-r-preserved c).After-pad_run-in-loop-r)

-- the last row
pub returns-2 : goal.returns-2
returns-2 c = all_rows _ _ c.requires.desks_most (read (goal.at.returns-2 c).After-pad_run-in-loop-r) (omega arith)
