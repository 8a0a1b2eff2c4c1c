-- `pack_run` writes one number after the other, each behind the one before it.
use Prim.Native.Nat.{◌+◌}
use lib.ListN.{get_or}
use Rattle.rules.specs.Numbers.{bytes}
use Rattle.rules.proofs.Loops.Writing.{Written}
use Rattle.padding.proofs.packed.pack_run.Given as goal

abbrev pub invariant-loop-k : goal.invariant-loop-k
invariant-loop-k l = Written l.initial.bytes l.at l.count (λ j. bytes 4 (get_or l.numbers (l.from + j) 0)) l.k l.bytes
