-- `list` goes over the piles of a book that was checked, and so has at most 8 desks.
use Rattle.std.proofs.Common.{◌∙◌, ap, sym, arith}
use Rattle.rules.specs.Layout.{Head}
use Rattle.rules.proofs.File.Readable.{book_facts}
use Rattle.layout.proofs.Positions.{head_there}
use Rattle.lister.proofs.list.Goals as goal

pub loop-k-init : goal.loop-k-init
loop-k-init g c =
    -- past the test the book is readable
    let f = book_facts c.args.book.now (sym c.in_default.ensures) in
    let count = ap (λ (h : Head). h.desks) (c.head_of-head.ensures ∙ head_there _ f.long) in
    omega (arith, count, f.sizes.desks_most)
