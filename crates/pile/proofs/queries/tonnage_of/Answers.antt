-- `tonnage_of` hands out the tonnage of the record's body, which is at most the top.
use native.Mathlib.Omega.{arith}
use mathlib.Core.Path.{◌∙◌}
use Rattle.pile.specs.View.{as_record}
use Rattle.pile.proofs.Packed.{tonnage_read, tonnage_small}
use Rattle.pile.proofs.queries.tonnage_of.Goals as goal

pub overflow_cast-result : goal.overflow_cast-result
overflow_cast-result c = omega (arith, c.tonnage_in.ensures, tonnage_small (as_record c.args.p) c.in_ok-body.ensures.body)

pub returns-clause-tonnage : goal.returns-clause-tonnage
returns-clause-tonnage c = c.tonnage_in.ensures ∙ tonnage_read (as_record c.args.p) c.in_ok-body.ensures.body
