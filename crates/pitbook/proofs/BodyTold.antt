-- What a call for the body of a pile tells: where it starts that `seek` has found, and the length of every body of the book.
-- Assumes nothing.
use Prim.Native.Nat.{ℕ}
use mathlib.Core.Path.{◌≡◌, ap, sym, ◌∙◌}
use mathlib.Core.List.{List}
use Rattle.refusal.proofs.Refused.{number_is_not_0}
use Rattle.rules.specs.Layout.{body_length, desks}
use Rattle.rules.specs.Opening.{body_size}
use Rattle.rules.specs.Book.{desk_answer, body_start}
use Rattle.rules.specs.Record.{desk_start, desk_count}
use Rattle.rules.proofs.Loops.Refusals.{when_accepted}
use Rattle.rules.proofs.File.BodySize.{size_in_range}
use Rattle.rules.proofs.File.Readable.{book_facts}
use Rattle.rules.proofs.File.Found.{found_readable, found_place, desk_0_fetch}
use Rattle.rules.proofs.Record.OfBody.{found_start, found_count}

module _ (b : List ℕ) (number : ℕ) (located : desk_answer 0 b number ≡ 0) where
  pub start_told : desk_start 0 b number ≡ body_start b number
  unfolding body_start
  start_told =
      let found = sym (desk_0_fetch b number) ∙ located in
      let placed = (book_facts b (found_readable 0 b number located)).placed _ (found_place 0 b number located) in
      found_start 0 b number located ∙ sym (when_accepted _ _ _ found ∙ placed)

  pub length_told : body_size (desk_count 0 b number) ≡ body_length (desks b)
  length_told =
      let s = (book_facts b (found_readable 0 b number located)).sizes in
      ap body_size (found_count 0 b number located) ∙ size_in_range _ s.desks_least s.desks_most

pub ruleset body_told = (start_told, length_told, desk_0_fetch, number_is_not_0)
