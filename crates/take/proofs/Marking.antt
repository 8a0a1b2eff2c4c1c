-- Marks that are set row after row, and the rows that they stand for.
-- Assumes nothing.
use Prim.Native.Nat.{ℕ, zero, suc, ◌+◌, ◌*◌, ◌<◌}
use native.Mathlib.Nat.{not-suc-le-zero}
use native.Mathlib.Omega.{arith}
use mathlib.Core.Path.{◌≡◌, refl, ◌∙◌}
use mathlib.Core.Logic.{◌≢◌}
use mathlib.Core.Bool.{Bool, false}
use mathlib.Core.List.{List}
use lib.ListN.{length, get_or, set, replicate}
use lib.Seq.{get_or-set_same, get_or-set_other}
use borrow.Author.Count.{below_more}
use Rattle.rules.proofs.Loops.Ranges.{piece_within}
use Rattle.take.specs.Inner.{InBoth, RowsInBoth, later_at, Marked}

-- row r lies within both books
pub row_in_both : {at row count : ℕ} {own copy : List ℕ} → RowsInBoth at row count own copy → (r : ℕ) → r < count → InBoth (at + r * row) row own copy
row_in_both {row = row} b r l =
    let piece = piece_within row l in
    record { in_own = omega (arith, b.within.in_own, piece); in_copy = omega (arith, b.within.in_copy, piece) }

-- an array of false has no mark set
none_set : (m k : ℕ) → get_or (replicate m false) k false ≡ false
none_set zero k = refl
none_set (suc m) zero = refl
none_set (suc m) (suc k) = none_set m k

module _ {at row : ℕ} {own copy : List ℕ} where
  pub none_marked : (m : ℕ) → Marked at row 0 own copy (replicate m false)
  none_marked m = record { said = λ k l. absurd (not-suc-le-zero l); unset = λ k _. none_set m k }

  -- the next row has its mark where it is set as the row is, or is left unset and the row is not later
  module _ {rows : ℕ} {marks : List Bool} (marked : Marked at row rows own copy marks) where
    pub next_marked : rows < length marks → {place : ℕ} → place ≡ rows → {later : Bool} → later ≡ later_at at row own copy rows
        → Marked at row (rows + 1) own copy (set marks place later)
    next_marked room here {later} e =
        let other : (k : ℕ) → k ≢ rows → get_or (set marks rows later) k false ≡ get_or marks k false = λ k d. get_or-set_other marks rows k later false d in
        rw here (record {
          said = below_more _ rows (λ k l. other k (λ q. omega arith) ∙ marked.said k l) (get_or-set_same marks rows later false room ∙ e);
          unset = λ k l. other k (λ q. omega arith) ∙ marked.unset k (omega arith);
        })

    pub next_unmarked : later_at at row own copy rows ≡ false → Marked at row (rows + 1) own copy marks
    next_unmarked e =
        record {
          said = below_more _ rows marked.said (cc (marked.unset rows (omega arith)));
          unset = λ k l. marked.unset k (omega arith);
        }
