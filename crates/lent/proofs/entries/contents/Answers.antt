-- `contents` asks the lines of the table in their order, and stores line k of the book's contents as entry k, for each k below the number of piles.
use Rattle.std.proofs.Common.{◌≡◌, length, ap, sym, ◌∙◌, arith}
use Rattle.rules.specs.Layout.{Head, piles}
use Rattle.rules.proofs.Loops.Partly.{partly_none, partly_next}
use Rattle.rules.proofs.File.Contents.{contents_own, contents_8, contents_0}
use Rattle.refusal.specs.declared.Refusal.TheVariants.{BufferShort}
use Rattle.refusal.proofs.Refused.{number_is_not_0, handed_on}
use Rattle.lent.proofs.Lines.{none_filled, all_filled, piles_read}
use Rattle.lent.proofs.entries.contents.Goals as goal
use Rattle.lent.proofs.entries.contents.Goals.{After-head_of-piles}

read : (c : After-head_of-piles) → c.head_of-piles.result.piles ≡ piles c.args.book.now
read c = ap (λ (h : Head). h.piles) c.head_of-piles.ensures ∙ piles_read _ (sym c.in_ok-check.ensures)

pub returns-in_err-check : goal.returns-in_err-check
returns-in_err-check c =
    let refusal = c.in_err-check.field-0.0 in
    let e = contents_own _ (length c.args.entries.now) c.in_err-check.ensures (number_is_not_0 refusal) in
    record { answer = handed_on c.from_residual.result refusal c.from_residual.ensures.1 ∙ e; entries = none_filled refusal _ _ e }

pub returns-then-entries-from : goal.returns-then-entries-from
returns-then-entries-from c =
    let short = rw (c.from.ensures, read (goal.at.returns-then-entries-from c).After-head_of-piles) at c.if-entries-from.true in
    let e = contents_8 _ _ (sym c.in_ok-check.ensures) short in
    record { answer = e; entries = none_filled BufferShort _ _ e }

pub loop-k-init : goal.loop-k-init
loop-k-init c = record { room = omega (arith, c.from.ensures); filled_so_far = sym (partly_none _ _) }

pub loop-k-preserved : goal.loop-k-preserved
loop-k-preserved c = record {
  room = omega arith;
  filled_so_far = rw (c.pile_number.ensures, c.position.ensures, c.from-in-loop-k.ensures, c.loop-k.invariant.filled_so_far) (partly_next _ _ _ (omega arith));
}

pub returns : goal.returns
returns c =
    let is = read (goal.at.returns c).After-head_of-piles in
    let e = contents_0 _ (length c.args.entries.now) (sym c.in_ok-check.ensures) (rw is at c.loop-k.invariant.room) in
    let all : c.loop-k.k ≡ piles c.args.book.now = omega (arith, is) in
    record { answer = e; entries = c.loop-k.invariant.filled_so_far ∙ rw all (all_filled _ _ e) }
