-- Where a record has its shares: those of draw in the first 8 places, those of tip in the next 8.
-- Assumes nothing.
use Prim.Native.Nat.{ℕ, ◌+◌, ◌*◌}
use native.Mathlib.Omega.{arith}
use mathlib.Core.Path.{◌≡◌, ap, ◌∙◌}
use mathlib.Core.List.{List, [], ◌∷◌}
use lib.ListN.{get_or}
use lib.Seq.{get_or-append-add}
use Rattle.rules.specs.Pile.{Side, draw, tip}
use Rattle.rules.specs.Layout.{desk_limit, column}

abbrev pub side_number : Side → ℕ
side_number draw = 0
side_number tip = 1

-- as a column of row 0, behind floor and top, and as a place of the array
pub share_at : (floor top : ℕ) (shares : List ℕ) (s : Side) (j : ℕ)
    → get_or (floor ∷ top ∷ shares) (column desk_limit s j) 0 ≡ get_or shares (desk_limit * side_number s + j) 0
share_at floor top shares draw j = get_or-append-add (floor ∷ top ∷ []) shares j 0 ∙ ap (λ (k : ℕ). get_or shares k 0) (omega arith)
share_at floor top shares tip j = get_or-append-add (floor ∷ top ∷ []) shares (desk_limit + j) 0 ∙ ap (λ (k : ℕ). get_or shares k 0) (omega arith)
