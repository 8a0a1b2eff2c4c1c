-- `pack` writes the rows where no line of the table refuses it; the last line asks for room.
use native.Mathlib.Omega.{arith}
use Rattle.rules.specs.Refusals.{◌when◌}
use Rattle.rules.proofs.File.BodySize.{size_in_range}
use Rattle.padding.proofs.PackLines.{by_room, rows_packed}
use Rattle.padding.proofs.pack.Goals as goal

pub returns-then-runs_past-clause-answer : goal.returns-then-runs_past-clause-answer
unfolding ◌when◌
returns-then-runs_past-clause-answer c = grind (arith, size_in_range, by_room)

pub returns : goal.returns
unfolding ◌when◌
returns c = record { answer = grind (arith, size_in_range, by_room); bytes = grind (arith, size_in_range, rows_packed) }
