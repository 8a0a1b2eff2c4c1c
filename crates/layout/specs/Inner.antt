-- What functions inside the crates ask of bytes that they are lent, and read there: no promise to a caller is made in these words.
-- Assumes nothing.
use Rattle.std.specs.Prelude.{ℕ, ◌+◌, ◌-◌, ◌≤◌, List, length, take, drop}
use Rattle.rules.specs.Numbers.{number}
use Rattle.rules.specs.Pile.{Pile}
use Rattle.rules.specs.Layout.{desk_limit, body_length, cell_at, view}

-- a body of n desks lies within the bytes, from a position on
pub record BodyWithin (n at : ℕ) (b : List ℕ) : Type 0 where
  pub desks_most : n ≤ desk_limit
  pub within : at + body_length n ≤ length b

-- the pile of the body that a list of bytes starts with
abbrev pub first_body : ℕ → List ℕ → Pile
first_body n b = view n (λ row column. number 4 b (cell_at n row column))

-- the bytes from a position on, as the part of a slice to its end has them
abbrev pub rest : ℕ → List ℕ → List ℕ
rest at b = take (length b - at) (drop at b)
