-- `copy_bytes` stores one byte after the other, as `sets` does.
use native.Mathlib.Omega.{arith}
use mathlib.Core.Path.{sym, ◌∙◌, ap}
use lib.Seq.{sets}
use Rattle.rules.specs.Loops.{list}
use Rattle.rules.proofs.Loops.Pieces.{length_list, getD_list}
use Rattle.rules.proofs.Loops.Parts.{part_is}
use Rattle.rules.proofs.Loops.Writing.{none_written, next_number_lem, all_numbers}
use Rattle.take.proofs.merge.copy_bytes.Goals as goal
use Rattle.take.proofs.merge.copy_bytes.Invariants.{byte}

pub loop-k-init : goal.loop-k-init
loop-k-init c = none_written

pub loop-k-preserved : goal.loop-k-preserved
loop-k-preserved c = next_number_lem c.loop-k.invariant c.loop-k-test.true

pub returns : goal.returns
returns c =
    let a = c.args in
    let bytes = byte a.copy.now a.at in
    all_numbers c.loop-k.invariant (omega arith)
    ∙ ap (sets a.own.now a.at) (sym (part_is a.at a.count a.copy.now (list a.count bytes) c.requires.in_copy (length_list a.count bytes)
    (λ j l. sym (getD_list a.count bytes 0 j l))))
