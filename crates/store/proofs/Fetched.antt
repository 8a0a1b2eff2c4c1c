-- What `seek` told of a pile that a call fetches, and the record or the list that a fetch hands back of it.
-- Assumes nothing.
use Prim.Native.Nat.{ℕ, ◌+◌, ◌≤◌}
use mathlib.Core.Path.{◌≡◌, ap₂, sym, ◌∙◌}
use mathlib.Core.List.{List}
use lib.ListN.{length}
use lib.Seq.{sets}
use borrow.Author.Tests.{le-leb, le-ltb}
use Rattle.refusal.proofs.Refused.{refusals}
use Rattle.rules.specs.Loops.{◌and◌, between}
use Rattle.rules.specs.Refusals.{◌when◌, ◌or_else◌, done}
use Rattle.rules.specs.Layout.{body_length, desks, body_view, pile_of, Sizes, piles}
use Rattle.rules.specs.Book.{fetch_answer, desk_answer, place}
use Rattle.rules.specs.Record.{Record, record_of, body_record, fetched, desk_start, desk_count}
use Rattle.rules.proofs.Loops.Refusals.{when_refused}
use Rattle.rules.proofs.File.Found.{desk_0_fetch}
use Rattle.rules.proofs.File.Readable.{book_facts}
use Rattle.rules.proofs.Record.OfBody.{found_start, found_count}
use Rattle.rules.proofs.Record.RoundTrip.{body_in_lem, fetched_readable, fetched_place, fetched_is}
use Rattle.rules.proofs.Record.AtPosition.{record_there}
use Rattle.padding.specs.Lists.{record_numbers, pad_answer, after_pad}
use Rattle.book.proofs.Lines.{table}
use Rattle.store.specs.Numbers.{fetch_numbers_answer, after_fetch_numbers}

-- the pile is found: it has so many desks, and its body starts there
module _ (b : List ℕ) (number : ℕ) (found : desk_answer 0 b number ≡ 0) where
  abbrev n : ℕ
  n = desk_count 0 b number

  abbrev at : ℕ
  at = desk_start 0 b number

  fetchable : fetch_answer b number ≡ 0
  fetchable = sym (desk_0_fetch b number) ∙ found

  sizes : Sizes (desks b) (piles b)
  sizes = (book_facts b (fetched_readable b number fetchable)).sizes

  pub some_desks : 1 ≤ n
  some_desks = rw (found_count 0 b number found) sizes.desks_least

  pub few_desks : n ≤ 8
  few_desks = rw (found_count 0 b number found) sizes.desks_most

  pub body_room : at + body_length n ≤ length b
  body_room =
      rw (found_start 0 b number found, found_count 0 b number found)
      (body_in_lem b (book_facts b (fetched_readable b number fetchable)) (place b number) (fetched_place b number fetchable))

  -- its record is that of the body
  padded_found : record_of n (body_view n b at) ≡ fetched b number
  unfolding pile_of
  padded_found =
      ap₂ (λ (n at : ℕ). record_of n (body_view n b at)) (found_count 0 b number found) (found_start 0 b number found) ∙ sym (fetched_is b number fetchable)

  pub fetched_found : body_record n b at ≡ fetched b number
  fetched_found = record_there n b at some_desks few_desks body_room ∙ padded_found

  -- and padded it is the list
  pub room_asked : (room : ℕ) → pad_answer n at (length b) room ≡ fetch_numbers_answer b number room
  unfolding pad_answer fetch_numbers_answer between ◌and◌ ◌when◌ ◌or_else◌
  room_asked room = rw (fetchable, le-ltb _ _ body_room, le-leb _ _ some_desks, le-leb _ _ few_desks)

  pub list_found : (out : List ℕ) → after_pad n at b out ≡ after_fetch_numbers b number out
  unfolding after_pad after_fetch_numbers
  list_found out = ap₂ (λ (m : ℕ) (r : Record). done m (sets out 0 (record_numbers r)) out) (room_asked (length out)) padded_found

-- A fetch hands back what was found, or the refusal alone.
pub ruleset fetches = (refusals, table, desk_0_fetch, when_refused, fetched_found, room_asked, list_found)
