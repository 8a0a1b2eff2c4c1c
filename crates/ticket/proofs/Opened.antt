-- What the answers to a reading and to a writing are opened by.
-- Assumes nothing.
use Rattle.rules.specs.Refusals.{◌when◌, ◌or_else◌, done}
use Rattle.ticket.specs.Tickets.{ticket_of, field_answer, fields_answer, read_answer, write_answer, reading, after_write}

unfoldable pub open_reading : Unit {0}
unfolding ◌when◌ ◌or_else◌ done ticket_of field_answer fields_answer read_answer reading
open_reading = tt

unfoldable pub open_writing : Unit {0}
unfolding ◌when◌ ◌or_else◌ done field_answer fields_answer write_answer after_write
open_writing = tt
