-- `take_rows` goes by the marks, row after row: what was written before a row lies in front of it.
use Prim.Native.Nat.{ℕ, ◌+◌, ◌*◌, ◌<◌}
use native.Mathlib.Omega.{arith}
use mathlib.Core.Path.{◌≡◌, refl, ap, sym, ◌∙◌}
use mathlib.Core.Bool.{Bool, false}
use mathlib.Core.List.{List}
use lib.ListN.{length, get_or}
use lib.Seq.{sets}
use Rattle.rules.specs.Loops.{flat}
use Rattle.rules.specs.Numbers.{part}
use Rattle.rules.proofs.Loops.Pieces.{length_flat}
use Rattle.rules.proofs.Loops.Parts.{sets_part}
use Rattle.rules.proofs.Loops.Sets.{part_behind_sets}
use Rattle.rules.proofs.Loops.Writing.{none_written, next_written}
use Rattle.take.proofs.Marking.{row_in_both}
use Rattle.take.proofs.Moved.{moved, moved_long}
use Rattle.take.proofs.merge.take_rows.Goals as goal
use Rattle.take.proofs.merge.take_rows.Goals.{In-loop-k, Start, then-later, else-later}
use Rattle.take.proofs.merge.take_rows.Invariants.{taken}

-- what is written over the rows
abbrev pieces : Start → ℕ → List ℕ
pieces s = let a = s.args in taken a.own.now a.copy.now a.marks.now a.at a.row

row_long : (s : Start) (r : ℕ) → r < length s.args.marks.now → length (pieces s r) ≡ s.args.row
row_long s r l = moved_long (row_in_both s.requires r l) (get_or s.args.marks.now r false)

-- nothing was written yet where the row of this turn lies
untouched : (c : In-loop-k) → let a = c.args in
    let from = a.at + c.loop-k.k * a.row in
    part from a.row c.loop-k.own ≡ part from a.row a.own.now
untouched c =
    let start = (goal.at.In-loop-k c).Start in
    let inv = c.loop-k.invariant in
    let a = c.args in
    let from = a.at + c.loop-k.k * a.row in
    ap (part from a.row) inv.is
    ∙ part_behind_sets a.own.now a.at (flat c.loop-k.k (pieces start)) from a.row
    (omega (arith, length_flat c.loop-k.k a.row (pieces start) (λ r l. row_long start r (omega arith)))) (row_in_both c.requires c.loop-k.k c.loop-k-test.true).in_own

pub loop-k-init : goal.loop-k-init
loop-k-init c = none_written

pub loop-k-preserved : goal.loop-k-preserved
loop-k-preserved c =
    let at = goal.at.loop-k-preserved c in
    let a = c.args in
    let from = a.at + c.loop-k.k * a.row in
    let put : Bool → List ℕ = λ marked. sets c.loop-k.own from (moved a.own.now a.copy.now from a.row marked) in
    let written : c.if-later.own ≡ put (get_or a.marks.now c.loop-k.k false) =
    elim c.if-later.branch [
      | then-later w ↦ w.own-is ∙ w.copy_bytes.ensures ∙ ap put (sym w.if-later.true)
      | else-later w ↦
          w.own-is
          ∙ sym (sets_part from a.row c.loop-k.own (omega (arith, (row_in_both c.requires c.loop-k.k c.loop-k-test.true).in_own, c.loop-k.invariant.long)))
          ∙ ap (sets c.loop-k.own from) (untouched at.In-loop-k)
          ∙ ap put (sym w.if-later.false)
    ] in
    next_written a.row (row_long at.Start) c.loop-k.invariant c.loop-k-test.true refl written
