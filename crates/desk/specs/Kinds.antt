-- The arguments of a call but for its desk, as an act of the rules.
-- Assumes nothing.
use Rattle.std.specs.Prelude.{ℕ}
use Rattle.rules.specs.Acts as rules
use Rattle.rules.specs.Acts.{Act}

abbrev pub act : rules.Kind → ℕ → ℕ → Act
act kind number amount = record { kind = kind; pile = number; amount = amount }
