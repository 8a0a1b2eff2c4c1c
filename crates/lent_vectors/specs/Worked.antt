-- The worked book's seven acts on a record, one after the other.
-- Assumes nothing.
use Rattle.rules.specs.Pile.{draw, tip}
use Rattle.rules.specs.Acts.{spend, give}
use Rattle.rules.specs.Record.{Record, record_after_act}

abbrev pub after_worked : Record → Record
after_worked f =
    record_after_act 2 (spend draw) 2
    (record_after_act 1 (spend draw) 4
    (record_after_act 0 (spend draw) 5
    (record_after_act 0 (give draw 2) 10
    (record_after_act 0 (give draw 1) 10
    (record_after_act 1 (spend tip) 1
    (record_after_act 0 (spend tip) 30 f))))))
