-- The cells of a list's record: row 0 is floor, top and the shares, row i + 1 the tallies of desk i, and the rows stand one after the other behind n.
-- Assumes nothing.
use Prim.Native.Nat.{ℕ, zero, suc, ◌+◌, ◌*◌, ◌<◌}
use native.Mathlib.Omega.{arith}
use mathlib.Core.Path.{◌≡◌, refl, ap, ◌∙◌}
use mathlib.Core.List.{List}
use lib.ListN.{get_or}
use Rattle.rules.specs.Record.{row_places, share_places, tally_places, record_cell}
use Rattle.rules.proofs.Loops.Parts.{get_d_part}
use Rattle.padding.specs.Lists.{shares_at, tallies_at, numbers_record}

pub record_cell_lem : (l : List ℕ) (r c : ℕ) → r < 9 → c < row_places → record_cell (numbers_record l) r c ≡ get_or l (1 + r * row_places + c) 0
unfolding numbers_record
record_cell_lem l zero zero r<9 c<row = refl
record_cell_lem l zero (suc zero) r<9 c<row = refl
record_cell_lem l zero (suc (suc j)) r<9 c<row =
    get_d_part shares_at share_places l j (omega arith) ∙ ap (λ (q : ℕ). get_or l q 0) (omega arith)
record_cell_lem l (suc i) c r<9 c<row =
    get_d_part tallies_at tally_places l (i * row_places + c) (omega arith) ∙ ap (λ (q : ℕ). get_or l q 0) (omega arith)
