-- The answers of a comparison as what the rules say that comparing two rows tells: the four cases, and the refusal by its number.
-- Assumes nothing.
use Rattle.std.specs.Prelude.{Result, Ok, Err}
use Rattle.rules.specs.Rows as rules
use Rattle.refusal.specs.declared.Refusal.{Refusal}
use Rattle.refusal.specs.Answers.{number_of}
use Rattle.rows.specs.declared.Comparison.{Comparison}
use Rattle.rows.specs.declared.Comparison.TheVariants.{Alike, MineLater, CopyLater, Split}

abbrev pub as_comparison : Result Comparison Refusal → rules.Comparison
as_comparison (Ok Alike) = rules.both_alike
as_comparison (Ok MineLater) = rules.mine_later
as_comparison (Ok CopyLater) = rules.copy_later
as_comparison (Ok Split) = rules.both_split
as_comparison (Err refusal) = rules.refused (number_of refusal)
