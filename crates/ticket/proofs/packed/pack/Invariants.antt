-- `pack` writes from the last byte to the first: what it has not written yet, written over what it has, is the whole number.
use mathlib.Core.Path.{◌≡◌}
use lib.ListN.{length}
use lib.Seq.{sets}
use Rattle.ticket.specs.Packed.{packed_bytes}
use Rattle.ticket.proofs.packed.pack.Given as goal

abbrev pub invariant-loop-k : goal.invariant-loop-k
invariant-loop-k l = sets l.part 0 (packed_bytes l.k l.rest) ≡ packed_bytes (length l.initial.part) l.x
