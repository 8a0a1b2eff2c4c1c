-- What the functions inside this crate ask: no promise to a caller is made in these words.
-- Assumes nothing.
use Rattle.std.specs.Prelude.{ℕ, ◌≤◌, List, length}
use Rattle.rules.specs.Layout.{pile_limit}

-- both lists have room for p entries
pub record RoomFor (p : ℕ) (numbers positions : List ℕ) : Type 0 where
  pub piles_most : p ≤ pile_limit
  pub of_numbers : p ≤ length numbers
  pub of_positions : p ≤ length positions
