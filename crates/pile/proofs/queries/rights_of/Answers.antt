-- `rights_of` hands out what the record's body leaves the desk, which is at most the top.
use native.Mathlib.Omega.{arith}
use mathlib.Core.Path.{◌∙◌}
use Rattle.layout.specs.Sides.{as_side}
use Rattle.pile.specs.View.{as_record}
use Rattle.pile.proofs.Packed.{rights_read, rights_small}
use Rattle.pile.proofs.queries.rights_of.Goals as goal

pub overflow_cast-result : goal.overflow_cast-result
overflow_cast-result c =
    omega (arith, c.side_rights.ensures, rights_small (as_record c.args.p) c.in_ok-body.ensures.body (as_side c.args.side) c.args.desk c.if-p-desk.false)

pub returns-clause-rights : goal.returns-clause-rights
returns-clause-rights c = c.side_rights.ensures ∙ rights_read (as_record c.args.p) c.in_ok-body.ensures.body (as_side c.args.side) c.args.desk c.if-p-desk.false
