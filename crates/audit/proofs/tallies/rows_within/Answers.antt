-- `rows_within` asks of all rows whether their numbers are within the limit.
use mathlib.Core.Path.{refl}
use native.Mathlib.Omega.{arith}
use Rattle.std.proofs.Common.{rules}
use Rattle.std.proofs.lemmas.Iterator.{YieldsList-from_range}
use Rattle.audit.proofs.Ranges.{every_told}
use Rattle.audit.proofs.tallies.rows_within.Goals as goal

pub returns : goal.returns
returns c = every_told _ _ _ _ _ _ c.all.ensures.ran (YieldsList-from_range 0 _ _ refl (omega arith)) (λ x b q k. search rules)
