-- An entry that is lent as a part of its book says what the book does.
-- Assumes nothing.
use Prim.Native.Nat.{ℕ, ◌≤◌}
use native.Mathlib.Omega.{arith}
use mathlib.Core.Path.{◌≡◌, ap, ◌∙◌}
use mathlib.Core.List.{List}
use Rattle.rules.specs.Numbers.{number, part}
use Rattle.rules.specs.Layout.{entry_at, pile_number, position}
use Rattle.rules.proofs.Bytes.Numbers.{number_part}
use Rattle.layout.specs.Positions.{entry_number, entry_position}

module _ (b : List ℕ) (k size : ℕ) {at : ℕ} (is : at ≡ entry_at k) (long : 6 ≤ size) where
  pub entry_says_number : entry_number (part at size b) ≡ pile_number b k
  unfolding entry_number pile_number
  entry_says_number = number_part 2 b at size 0 (omega arith) ∙ ap (number 2 b) (omega arith)

  pub entry_says_position : entry_position (part at size b) ≡ position b k
  unfolding entry_position position
  entry_says_position = number_part 4 b at size 2 (omega arith) ∙ ap (number 4 b) (omega arith)
