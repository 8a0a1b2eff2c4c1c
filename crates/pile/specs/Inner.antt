-- What the functions inside the crate promise of a record.
-- Assumes nothing.
use Rattle.std.specs.Prelude.{ℕ, ◌≡◌, List, length, replicate}
use Rattle.rules.specs.Record.{Record, record_answer, InMemory}
use Rattle.padding.specs.Lists.{record_numbers, after_pack}

-- a lawful record, and bytes with room for any body that have at their start the one that the record's list packs to
pub record PackedAs (r : Record) (bytes : List ℕ) : Type 0 where
  pub arrays : InMemory r
  pub lawful : record_answer r ≡ 0
  pub long : length bytes ≡ 648
  pub body : bytes ≡ after_pack (record_numbers r) 0 (replicate 648 0)
