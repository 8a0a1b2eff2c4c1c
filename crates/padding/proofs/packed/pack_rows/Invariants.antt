-- `pack_rows` writes each row in two runs, one row behind the other.
use Prim.Native.Nat.{suc, ◌+◌, ◌*◌}
use mathlib.Core.Path.{◌≡◌}
use Rattle.rules.specs.Numbers.{encode}
use Rattle.rules.proofs.Loops.Writing.{Written}
use Rattle.padding.specs.Inner.{packed_row}
use Rattle.padding.proofs.packed.pack_rows.Given as goal

abbrev pub invariant-loop-r : goal.invariant-loop-r
invariant-loop-r l =
    (l.to ≡ l.at + l.r * (8 * (l.n + 1))) × Written l.initial.bytes l.at (suc l.n) (λ j. encode (packed_row l.n l.numbers j)) l.r l.bytes
