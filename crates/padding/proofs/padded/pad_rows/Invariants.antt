-- `pad_rows` reads one row after the other.
use Prim.Native.Nat.{◌+◌, ◌*◌}
use mathlib.Core.Path.{◌≡◌}
use Rattle.rules.specs.Numbers.{number}
use Rattle.rules.specs.Layout.{cell_at}
use Rattle.padding.proofs.PaddedRows.{Rows}
use Rattle.padding.proofs.padded.pad_rows.Given as goal

abbrev pub invariant-loop-r : goal.invariant-loop-r
invariant-loop-r l =
    (l.from ≡ l.at + l.r * (8 * (l.n + 1))) × Rows l.n (λ row column. number 4 l.bytes (l.at + cell_at l.n row column)) l.r l.out
