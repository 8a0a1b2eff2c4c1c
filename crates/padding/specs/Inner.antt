-- What the functions inside the crates that copy numbers ask and promise: no promise to a caller is made in these words.
-- Assumes nothing.
use Rattle.std.specs.Prelude.{ℕ, suc, ◌+◌, ◌*◌, ◌≤◌, ◌≡◌, List, ◌++◌, length, get_or, replicate}
use Rattle.rules.specs.Loops.{list}
use Rattle.rules.specs.Layout.{desk_limit, body_length}
use Rattle.rules.specs.Record.{row_places, tips_place}
use Rattle.padding.specs.Lists.{record_length}

-- A run fits: its target has room for it from a place on, and its source has it from a place on. A number takes one place of a list, and four bytes. It is
-- asked both ways: of bytes written from a list, and of a list read from bytes.
pub record RunFits (to room : ℕ) (target : List ℕ) (from size : ℕ) (source : List ℕ) : Type 0 where
  pub has_room : to + room ≤ length target
  pub is_there : from + size ≤ length source

-- a body of n desks lies within the bytes from a position on, and the list is a body of 8 desks of zeros
pub record RowsClear (n at : ℕ) (b out : List ℕ) : Type 0 where
  pub desks_most : n ≤ desk_limit
  pub within : at + body_length n ≤ length b
  pub zeros : out ≡ replicate (suc desk_limit * row_places) 0

-- a list of a record's length, and room for a body of n desks from a position on
pub record RowsFit (n at : ℕ) (b numbers : List ℕ) : Type 0 where
  pub desks_most : n ≤ desk_limit
  pub within : at + body_length n ≤ length b
  pub all_there : length numbers ≡ record_length

-- the numbers of n desks in row r of a list: row 0 is the opening, row i + 1 desk i's
abbrev pub packed_row : ℕ → List ℕ → ℕ → List ℕ
packed_row n l r = list (2 + n) (λ k. get_or l (1 + r * row_places + k) 0) ++ list n (λ k. get_or l (1 + r * row_places + tips_place + k) 0)
