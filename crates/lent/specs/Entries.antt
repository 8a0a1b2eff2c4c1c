-- An entry of the contents, as the struct that is lent.
-- Assumes nothing.
use Rattle.std.specs.Prelude.{ℕ}
use Rattle.lent.specs.declared.entries.Entry.{Entry}

abbrev pub entry_of : ℕ → ℕ → Entry
entry_of number position = record { number = number; position = position }
