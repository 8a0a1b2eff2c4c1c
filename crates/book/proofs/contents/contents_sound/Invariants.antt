-- `contents_sound` tests one entry after the other, its number against the one before it and its position against where the body before it ends, and stops at
-- the first that is wrong.
use Rattle.rules.specs.Layout.{pile_number}
use Rattle.rules.proofs.File.Risen.{Risen}
use Rattle.layout.specs.Positions.{as_head}
use Rattle.book.proofs.Entries.{Placed}
use Rattle.book.proofs.contents.contents_sound.Given as goal

abbrev pub invariant-loop-k : goal.invariant-loop-k
invariant-loop-k l =
    record { rising : Risen l.fn.head.piles (pile_number l.book) l.k l.last; placed : Placed (as_head l.fn.head) l.book l.k l.expected }
