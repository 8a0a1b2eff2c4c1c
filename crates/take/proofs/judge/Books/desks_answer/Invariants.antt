-- `desks_answer` judges one desk's rows after the other and marks those that are later in the copy; it stops at the first that are refused.
use Prim.Native.Nat.{suc, ◌+◌, ◌*◌}
use Rattle.rules.specs.Layout.{row_length, front_length}
use Rattle.rules.proofs.Loops.PassedSoFar.{PassedSoFar}
use Rattle.layout.specs.Positions.{as_head}
use Rattle.take.specs.Inner.{Marked, desk_told}
use Rattle.take.proofs.judge.Books.desks_answer.Given as goal

abbrev pub invariant-loop-i : goal.invariant-loop-i
invariant-loop-i l =
    let b = l.fn.self in
    let h = as_head b.head in
    PassedSoFar h.desks (desk_told b l.desk l.k) l.i × Marked (front_length h) (row_length h.desks) (l.k * suc h.desks + suc l.i) b.own.now b.copy.now l.marks
