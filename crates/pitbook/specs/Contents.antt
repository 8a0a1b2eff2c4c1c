-- The contents of a book, filled into two lent lists: the pile numbers, and the positions of their bodies.
-- Assumes nothing.
use Rattle.std.specs.Prelude.{ℕ, min, List, ◌++◌, length, drop}
use Rattle.rules.specs.Loops.{list}
use Rattle.rules.specs.Refusals.{done}
use Rattle.rules.specs.Layout.{piles, pile_number, position}
use Rattle.rules.specs.Book.{contents_answer}

-- The shorter list decides whether there is room.
unfoldable pub lists_answer : List ℕ → List ℕ → List ℕ → ℕ
lists_answer b numbers positions = contents_answer b (min (length numbers) (length positions))

-- a list whose first p numbers are f 0 .. f (p - 1), and the rest as it was
abbrev pub filled : ℕ → (ℕ → ℕ) → List ℕ → List ℕ
filled p f before = list p f ++ drop p before

-- each list afterwards: as it was where the call is refused
unfoldable pub after_numbers : List ℕ → List ℕ → List ℕ → List ℕ
after_numbers b numbers positions = done (lists_answer b numbers positions) (filled (piles b) (pile_number b) numbers) numbers

unfoldable pub after_positions : List ℕ → List ℕ → List ℕ → List ℕ
after_positions b numbers positions = done (lists_answer b numbers positions) (filled (piles b) (position b) positions) positions
