-- A pile that is found in a book: the book is readable, and its desk and place are there.
-- Assumes nothing.
use Prim.Native.Nat.{ℕ, ◌<◌}
use native.Mathlib.Decide.{ℕ_discrete}
use native.Mathlib.Numerals.{lt_of_le_of_ne}
use mathlib.Core.Path.{◌≡◌, sym, ◌∙◌}
use mathlib.Core.Logic.{by_cases}
use mathlib.Core.List.{List}
use borrow.Author.Tests.{lt-ltb, ltb-true, eqb-false}
use Rattle.rules.specs.Refusals.{◌when◌, ◌or_else◌}
use Rattle.rules.specs.Layout.{desks, piles}
use Rattle.rules.specs.Book.{book_answer, place, absent, fetch_answer, desk_answer}
use Rattle.rules.proofs.Loops.Every.{index_most}
use Rattle.rules.proofs.Loops.Refusals.{when_done, when_not_done, or_else_first, or_else_rest, or_else_stands}
use Rattle.rules.proofs.File.Readable.{book_facts}

module _ (i : ℕ) (b : List ℕ) (number : ℕ) (found : desk_answer i b number ≡ 0) where
  pub found_readable : book_answer b ≡ 0
  unfolding desk_answer
  found_readable = or_else_first _ _ found

  pub found_desk : i < desks b
  unfolding desk_answer
  found_desk = ltb-true _ _ (when_not_done _ _ (or_else_first _ _ (or_else_rest _ _ found)))

  pub found_place : place b number < piles b
  unfolding desk_answer absent place
  found_place = lt_of_le_of_ne (index_most (piles b) _) (eqb-false _ _ (when_done _ _ (or_else_rest _ _ (or_else_rest _ _ found))))

-- every readable book has a desk 0, so fetching asks as that desk would
pub desk_0_fetch : (b : List ℕ) (number : ℕ) → desk_answer 0 b number ≡ fetch_answer b number
unfolding desk_answer fetch_answer ◌when◌ ◌or_else◌
desk_0_fetch b number =
    by_cases (ℕ_discrete (book_answer b) 0)
    (λ e. rw (e, lt-ltb 0 (desks b) (book_facts b e).sizes.desks_least))
    (λ d. or_else_stands _ _ d ∙ sym (or_else_stands _ _ d))
