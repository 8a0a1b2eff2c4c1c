-- What a call for a pile of a book hands back: where its body starts, of how many desks it is, and which part of the book.
-- Assumes nothing.
use Prim.Native.Nat.{ℕ, ◌+◌, ◌≤◌}
use native.Mathlib.Omega.{arith}
use mathlib.Core.Path.{◌≡◌, ap, sym, ◌∙◌}
use mathlib.Core.List.{List}
use lib.ListN.{length}
use Rattle.rules.specs.Layout.{Head, head_of, body_length, desks, position}
use Rattle.rules.specs.Opening.{body_size}
use Rattle.rules.specs.Book.{place, fetch_answer, desk_answer}
use Rattle.rules.specs.Record.{desk_start, desk_count}
use Rattle.rules.proofs.Loops.Refusals.{when_accepted, when_refused}
use Rattle.rules.proofs.File.BodySize.{size_in_range}
use Rattle.rules.proofs.File.Readable.{BookFacts, book_facts}
use Rattle.rules.proofs.File.Positions.{body_within}
use Rattle.rules.proofs.File.Found.{found_readable, found_place, desk_0_fetch}
use Rattle.rules.proofs.Record.OfBody.{found_start, found_count}
use Rattle.layout.specs.Positions.{head_in}
use Rattle.layout.proofs.Positions.{head_there}

-- the pile is found
module _ (i : ℕ) (b : List ℕ) (number : ℕ) (found : desk_answer i b number ≡ 0) where
  facts : BookFacts b
  facts = book_facts b (found_readable i b number found)

  head_is : head_in b ≡ head_of b
  head_is = head_there b facts.long

  pub count_at : desk_count i b number ≡ (head_in b).desks
  count_at = found_count i b number found ∙ ap (λ (h : Head). h.desks) (sym head_is)

  pub start_at : desk_start i b number ≡ position b (place b number)
  start_at = found_start i b number found ∙ sym (facts.placed (place b number) (found_place i b number found))

pub fetch_is : (b : List ℕ) (number : ℕ) {m : ℕ} → m ≡ desk_answer 0 b number → m ≡ fetch_answer b number
fetch_is b number answer = answer ∙ desk_0_fetch b number

-- its body is asked for, as desk 0 asks
module _ (b : List ℕ) (number : ℕ) (found : desk_answer 0 b number ≡ 0) where
  pub size_is : body_size (head_in b).desks ≡ body_length (desks b)
  size_is =
      let sizes = (facts 0 b number found).sizes in
      ap (λ (h : Head). body_size h.desks) (head_is 0 b number found) ∙ size_in_range _ sizes.desks_least sizes.desks_most

  pub part_within : position b (place b number) + body_length (desks b) ≤ length b
  part_within =
      let f = facts 0 b number found in
      let below = found_place 0 b number found in
      omega (arith, f.placed _ below, f.sized, body_within (head_of b) _ below)

pub ruleset body_told = (desk_0_fetch, when_accepted, when_refused, size_is, part_within)
