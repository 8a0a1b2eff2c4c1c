-- `unpack` goes over the bytes while their digits are right, and keeps the number so far.
use mathlib.Core.Path.{◌≡◌}
use mathlib.Core.Bool.{true}
use Rattle.ticket.specs.Packed.{packed_number, digits_right}
use Rattle.ticket.proofs.packed.unpack.Given as goal

abbrev pub invariant-loop-byte : goal.invariant-loop-byte
invariant-loop-byte l = (digits_right l.byte-index l.part 0 ≡ true) × (l.number ≡ packed_number l.byte-index l.part 0)
