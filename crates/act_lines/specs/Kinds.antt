-- An act of the code as an act of the rules.
-- Assumes nothing.
use Rattle.rules.specs.Acts as rules
use Rattle.rules.specs.Acts.{spend, give}
use Rattle.layout.specs.Sides.{as_side}
use Rattle.act_lines.specs.declared.kinds.Kind.{Kind}
use Rattle.act_lines.specs.declared.kinds.Kind.TheVariants.{Spend, Give}

abbrev pub kind_of : Kind → rules.Kind
kind_of (Spend side) = spend (as_side side)
kind_of (Give side receiver) = give (as_side side) receiver
