-- The answers of the queries as the replies of the rules.
-- Assumes nothing.
use Rattle.std.specs.Prelude.{ℕ, Result, Ok, Err}
use Rattle.rules.specs.Refusals.{Reply, refused, value}
use Rattle.refusal.specs.declared.Refusal.{Refusal}
use Rattle.refusal.specs.Answers.{number_of}

abbrev pub as_reply : Result ℕ Refusal → Reply
as_reply (Ok tonnes) = value tonnes
as_reply (Err refusal) = refused (number_of refusal)
