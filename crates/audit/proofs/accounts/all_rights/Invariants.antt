-- `all_rights` stores one desk's rights after the other.
use mathlib.Core.Path.{◌≡◌}
use Rattle.rules.specs.Loops.{list}
use Rattle.rules.specs.Pile.{rights}
use Rattle.rules.specs.Layout.{desk_limit}
use Rattle.rules.specs.Record.{padded}
use Rattle.layout.specs.Sides.{as_side}
use Rattle.audit.specs.Inner.{pile_of}
use Rattle.audit.proofs.accounts.all_rights.Given as goal

abbrev pub invariant-loop-i : goal.invariant-loop-i
invariant-loop-i l = (l.rights ≡ list desk_limit (padded l.i (rights l.body.n (pile_of l.body) (as_side l.side))))
