-- `pack_run` writes one number after the other, each behind the one before it.
use Prim.Native.Nat.{ℕ, ◌+◌, ◌-◌, ◌*◌}
use native.Mathlib.Omega.{arith}
use mathlib.Core.Path.{refl, ◌∙◌}
use Rattle.rules.proofs.Bytes.Numbers.{length_bytes, encode_list}
use Rattle.rules.proofs.Loops.Writing.{none_written, next_written, all_written}
use Rattle.refusal.proofs.Refused.{done_of}
use Rattle.padding.proofs.Parts.{part_has_room, put_in_part}
use Rattle.padding.proofs.packed.pack_run.Goals as goal

pub loop-k-init : goal.loop-k-init
loop-k-init c = none_written

pub unwrap-requires : goal.unwrap-requires
unwrap-requires c =
    let to : ℕ = c.args.at + c.loop-k.k * 4 in
    let put = done_of c.put4.result (c.put4.ensures.answer ∙ part_has_room c.loop-k.bytes to (to + 4 - to) (omega arith) (omega (arith, c.loop-k.invariant.long))) in
    rw put.1

pub loop-k-preserved : goal.loop-k-preserved
loop-k-preserved c =
    let to : ℕ = c.args.at + c.loop-k.k * 4 in
    next_written 4 (λ j _. length_bytes 4 _) c.loop-k.invariant c.loop-k-test.true refl
    (put_in_part c.loop-k.bytes to (to + 4 - to) _ c.put4.ensures.bytes (omega arith) (omega (arith, c.loop-k.invariant.long)))

pub returns : goal.returns
returns c = rw encode_list (all_written c.loop-k.invariant (omega arith))
