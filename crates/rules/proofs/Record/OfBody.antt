-- The record of a body of a readable book has the body's numbers and passes its own check; and where a desk's call finds a body.
-- Assumes nothing.
use Prim.Native.Nat.{ℕ, ◌<◌}
use mathlib.Core.Path.{◌≡◌, ◌∙◌}
use mathlib.Core.List.{List}
use Rattle.rules.specs.Pile.{Pile}
use Rattle.rules.specs.Layout.{head_of, body_at, desks, piles, pile_of}
use Rattle.rules.specs.Book.{book_answer, place, desk_answer}
use Rattle.rules.specs.Record.{record_view, record_answer, record_of, desk_start, desk_count}
use Rattle.rules.proofs.Loops.Refusals.{when_accepted}
use Rattle.rules.proofs.Pile.Agree.{Agree}
use Rattle.rules.proofs.File.Readable.{book_facts}
use Rattle.rules.proofs.Record.RecordOf.{record_agrees, record_of_answer}

module _ (b : List ℕ) (k : ℕ) (readable : book_answer b ≡ 0) (k<p : k < piles b) where
  abbrev n : ℕ
  n = desks b

  abbrev P : Pile
  P = pile_of b k

  pub body_agrees : Agree n (record_view (record_of n P)) P
  body_agrees = record_agrees n P (book_facts b readable).sizes.desks_most

  pub body_record_lem : record_answer (record_of n P) ≡ 0
  body_record_lem = let f = book_facts b readable in record_of_answer n P f.sizes.desks_most f.sizes.desks_least ∙ f.bodies k k<p

-- what a desk's call finds
module _ (i : ℕ) (b : List ℕ) (number : ℕ) (found : desk_answer i b number ≡ 0) where
  pub found_start : desk_start i b number ≡ body_at (head_of b) (place b number)
  unfolding desk_start
  found_start = when_accepted _ _ _ found

  pub found_count : desk_count i b number ≡ desks b
  unfolding desk_count
  found_count = when_accepted _ _ _ found
