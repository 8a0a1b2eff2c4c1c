-- `put_contents` writes one entry after the other, each behind the one before it.
use Prim.Native.Nat.{◌+◌, ◌≤◌, ◌<◌}
use native.Mathlib.Omega.{arith}
use mathlib.Core.Path.{refl, ◌∙◌}
use lib.ListN.{length}
use Rattle.rules.specs.Layout.{entry_at}
use Rattle.rules.proofs.Loops.Writing.{none_written, next_written}
use Rattle.rules.proofs.File.Rising.{number_most}
use Rattle.rules.proofs.File.Positions.{entry_within}
use Rattle.rules.proofs.File.Front.{length_entry}
use Rattle.opening.specs.Inner.{book_head}
use Rattle.opening.proofs.Done.{is_done, entry_done}
use Rattle.opening.proofs.Opened.{put_entry}
use borrow.Author.Rules.{rules}
use Rattle.opening.proofs.front.put_contents.Goals as goal
use Rattle.opening.proofs.front.put_contents.Goals.{In-loop-k}

-- the entry of this turn has room
room : (c : In-loop-k) → entry_at c.loop-k.k + 6 ≤ length c.loop-k.out
room c = omega (arith, entry_within (book_head c.args.given.now) c.loop-k.k c.loop-k-test.true, c.requires.room, c.loop-k.invariant.long)

pub loop-k-init : goal.loop-k-init
loop-k-init c = none_written

-- and its number has 2 bytes
pub overflow_cast-number : goal.overflow_cast-number
overflow_cast-number c =
    let short : c.number.result < 65536 = rw (c.number.ensures, c.pile.ensures.number) (number_most _ _ c.requires.rises c.loop-k.k c.loop-k-test.true) in
    search (rules, short)

pub unwrap-requires : goal.unwrap-requires
unwrap-requires c = is_done _ (c.put_entry.ensures.answer ∙ entry_done _ _ (room (goal.at.unwrap-requires c).In-loop-k))

pub loop-k-preserved : goal.loop-k-preserved
loop-k-preserved c =
    let g = c.args.given.now in
    next_written 6 (λ j _. length_entry (book_head g) _ j) c.loop-k.invariant c.loop-k-test.true refl
    (put_entry g _ c.loop-k.k (room (goal.at.loop-k-preserved c).In-loop-k) c.head-head.ensures (c.number.ensures ∙ c.pile.ensures.number) c.put_entry.ensures.out)
