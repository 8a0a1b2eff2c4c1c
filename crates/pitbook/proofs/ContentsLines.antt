-- The contents filled into two lists: how many entries a readable book has, and the table that the lists are filled by.
-- Assumes nothing.
use Prim.Native.Nat.{ℕ, ◌≤◌}
use mathlib.Core.Path.{◌≡◌, ap}
use mathlib.Core.List.{List}
use Rattle.std.proofs.lemmas.Result.{err_from_is_err_and}
use Rattle.refusal.proofs.Refused.{number_is_not_0}
use Rattle.rules.specs.Refusals.{◌when◌, ◌or_else◌, done}
use Rattle.rules.specs.Layout.{Head, piles, pile_limit}
use Rattle.rules.specs.Book.{book_answer, contents_answer}
use Rattle.rules.proofs.File.Readable.{book_facts}
use Rattle.layout.specs.Positions.{head_in}
use Rattle.layout.proofs.Positions.{head_there}
use Rattle.pitbook.specs.Contents.{lists_answer, after_numbers, after_positions}

module _ (b : List ℕ) (readable : book_answer b ≡ 0) where
  pub piles_read : (head_in b).piles ≡ piles b
  piles_read = ap (λ (h : Head). h.piles) (head_there b (book_facts b readable).long)

  pub piles_most : piles b ≤ pile_limit
  piles_most = (book_facts b readable).sizes.piles_most

unfoldable pub open_lists : Unit {0}
unfolding ◌when◌ ◌or_else◌ done contents_answer lists_answer after_numbers after_positions
open_lists = tt

pub ruleset contents_read = (err_from_is_err_and, number_is_not_0, piles_read, piles_most)
