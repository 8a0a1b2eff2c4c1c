-- `pad_run` stores one number after the other, as `sets` does.
use Prim.Native.Nat.{ℕ, ◌+◌, ◌*◌}
use native.Mathlib.Omega.{arith}
use Rattle.rules.proofs.Bytes.Numbers.{number_read}
use Rattle.rules.proofs.Loops.Writing.{none_written, next_number_lem, all_numbers}
use Rattle.padding.proofs.padded.pad_run.Goals as goal

pub loop-k-init : goal.loop-k-init
loop-k-init c = none_written

pub loop-k-preserved : goal.loop-k-preserved
loop-k-preserved c =
    let a = c.args in
    let from : ℕ = a.from + c.loop-k.k * 4 in
    rw (number_read 4 a.bytes.now from c.get4.ensures) (next_number_lem c.loop-k.invariant c.loop-k-test.true)

pub returns : goal.returns
returns c = all_numbers c.loop-k.invariant (omega arith)
