-- A record's numbers as a list: what stands at each place of it.
-- Assumes nothing.
use Prim.Native.Nat.{ℕ, zero, suc, ◌+◌, ◌*◌, ◌<◌}
use native.Mathlib.Omega.{arith}
use mathlib.Core.Path.{◌≡◌}
use mathlib.Core.List.{◌∷◌}
use lib.ListN.{length, get_or, length-append, get_or-append}
use lib.Seq.{get_or-append-add}
use Rattle.rules.specs.Layout.{desk_limit}
use Rattle.rules.specs.Record.{Record, record_cell, row_places, share_places, tally_places}
use Rattle.padding.specs.Lists.{body_numbers}

module _ (r : Record) (shares : length r.shares ≡ share_places) where
  pub length_numbers : length r.tallies ≡ tally_places → length (body_numbers r) ≡ suc desk_limit * row_places
  unfolding body_numbers
  length_numbers tallies = omega (arith, length-append r.shares r.tallies)

  -- the opening is the first row, and the rows of the tallies follow it
  pub cell_of : (row c : ℕ) → c < row_places → get_or (body_numbers r) (row * row_places + c) 0 ≡ record_cell r row c
  unfolding body_numbers
  cell_of zero c l =
      let at : 0 * row_places + c ≡ c = omega arith in
      rw at (get_or-append (r.floor ∷ r.top ∷ r.shares) r.tallies 0 c (omega arith))
  cell_of (suc i) c l =
      let at : suc i * row_places + c ≡ length (r.floor ∷ r.top ∷ r.shares) + (i * row_places + c) = omega arith in
      rw at (get_or-append-add (r.floor ∷ r.top ∷ r.shares) r.tallies (i * row_places + c) 0)
