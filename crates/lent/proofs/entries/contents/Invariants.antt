-- `contents` stores line k of the book's contents as entry k, for each k below the number of piles, and leaves the rest of the list as it was.
use Rattle.std.proofs.Common.{◌≡◌, ◌≤◌, length}
use Rattle.rules.proofs.Loops.Partly.{partly}
use Rattle.lent.proofs.Lines.{line}
use Rattle.lent.proofs.entries.contents.Given as goal

abbrev pub invariant-loop-k : goal.invariant-loop-k
invariant-loop-k l = record {
  room : l.piles ≤ length l.initial.entries;
  filled_so_far : l.entries ≡ partly (line l.book) l.initial.entries l.k;
}
