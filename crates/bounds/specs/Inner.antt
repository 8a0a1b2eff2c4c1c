-- A bound from the numbers that it is made of.
-- Assumes nothing.
use Rattle.std.specs.Prelude.{ℕ, ◌+◌, ◌-◌}
use Rattle.rules.specs.Pile.{Side, draw, tip}

-- by side: floor and rights, or top less rights
abbrev pub kept : Side → ℕ → ℕ → ℕ → ℕ
kept draw floor top rights = floor + rights
kept tip floor top rights = top - rights
