-- The struct as the record of document 01.
-- Assumes nothing.
use Rattle.rules.specs.Record.{Record}
use Rattle.pile.specs.declared.Pile.{Pile}

abbrev pub as_record : Pile → Record
as_record p = record { n = p.n; floor = p.floor; top = p.top; shares = p.shares; tallies = p.tallies }
