-- `take_rows` goes by the marks, row after row: what was written before a row lies in front of it.
use Prim.Native.Nat.{ℕ, ◌+◌, ◌*◌}
use mathlib.Core.Bool.{Bool, false}
use mathlib.Core.List.{List}
use lib.ListN.{length, get_or}
use Rattle.rules.proofs.Loops.Writing.{Written}
use Rattle.take.proofs.Moved.{moved}
use Rattle.take.proofs.merge.take_rows.Given as goal

abbrev pub taken : List ℕ → List ℕ → List Bool → ℕ → ℕ → ℕ → List ℕ
taken own copy marks at row r = moved own copy (at + r * row) row (get_or marks r false)

abbrev pub invariant-loop-k : goal.invariant-loop-k
invariant-loop-k l = Written l.initial.own l.at (length l.marks) (taken l.initial.own l.copy l.marks l.at l.row) l.k l.own
