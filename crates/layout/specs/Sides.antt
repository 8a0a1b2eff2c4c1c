-- A side of the code as a side of the rules.
-- Assumes nothing.
use Rattle.rules.specs.Pile as rules
use Rattle.rules.specs.Pile.{draw, tip}
use Rattle.layout.specs.declared.side.Side.{Side}
use Rattle.layout.specs.declared.side.Side.TheVariants.{Draw, Tip}

abbrev pub as_side : Side → rules.Side
as_side Draw = draw
as_side Tip = tip
