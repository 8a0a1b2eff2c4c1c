-- Storing from a list of numbers: the lines of the table in their order, and what each leaves.
-- Assumes nothing.
use Prim.Native.Nat.{ℕ, zero, suc, ◌+◌, ◌≤◌}
use native.Mathlib.Nat.{suc-ne-zero}
use mathlib.Core.Path.{◌≡◌, refl, ap, ap₂, sym, ◌∙◌}
use mathlib.Core.List.{List}
use mathlib.Core.Bool.{Bool, true, false, not}
use lib.ListN.{length, get_or}
use lib.Dec.{eqb}
use lib.Seq.{sets}
use borrow.Author.Tests.{le-leb, le-ltb, eq-eqb, eqb-true}
use Rattle.refusal.proofs.Refused.{refusals}
use Rattle.rules.specs.Loops.{◌and◌, between}
use Rattle.rules.specs.Refusals.{◌when◌, ◌or_else◌, done}
use Rattle.rules.specs.Pile.{Pile, same_opening}
use Rattle.rules.specs.Layout.{body_length, body_bytes, desks, body_view, pile_of}
use Rattle.rules.specs.Book.{fetch_answer, desk_answer, place}
use Rattle.rules.specs.Record.{Record, share_places, tally_places, record_view, record_answer, store_answer, after_store, desk_start, desk_count}
use Rattle.rules.proofs.Loops.Logic.{and_both, and_left_fails, and_right_fails}
use Rattle.rules.proofs.Loops.Refusals.{when_not_done, or_else_first, when_accepted, when_refused}
use Rattle.rules.proofs.File.Found.{desk_0_fetch}
use Rattle.rules.proofs.Record.OfBody.{found_start, found_count}
use Rattle.padding.specs.Lists.{record_length, record_numbers, numbers_record, pack_answer, after_pack, list_answer}
use Rattle.padding.proofs.PackLines.{pack_leaves}
use Rattle.pile.proofs.RecordNumbers.{length_record, numbers_again}
use Rattle.book.proofs.Lines.{table}
use Rattle.store.specs.Numbers.{store_numbers_answer, after_store_numbers}
use Rattle.store.proofs.Fetched.{some_desks, few_desks, body_room}

-- a list that its own check passes
pub list_sized : (l : List ℕ) → list_answer l ≡ 0 → length l ≡ record_length
unfolding list_answer
list_sized l e = eqb-true _ _ (when_not_done 2 _ (or_else_first _ _ e))

-- the book's own lines are asked once
lines_again : (book : ℕ) (sized : Bool) (own last : ℕ)
    → book or_else 3 when not sized or_else book or_else own or_else last ≡ book or_else (3 when not sized or_else own) or_else last
unfolding ◌when◌ ◌or_else◌
lines_again zero true own last = refl
lines_again zero false own last = refl
lines_again (suc book) sized own last = refl

done_again : {A : Type 0} (m : ℕ) (after before : A) → done m (done m after before) before ≡ done m after before
unfolding done
done_again zero after before = refl
done_again (suc m) after before = when_refused _ _ _ (suc-ne-zero m) ∙ sym (when_refused _ _ _ (suc-ne-zero m))

module _ (b : List ℕ) (number : ℕ) (l : List ℕ) where
  abbrev R : Record
  R = numbers_record l

  pub store_lines : store_numbers_answer b number l
      ≡ fetch_answer b number or_else list_answer l
      or_else 30 when not (eqb (get_or l 0 0) (desks b) and same_opening (desks b) (record_view R) (pile_of b (place b number)))
  unfolding store_numbers_answer store_answer list_answer numbers_record
  store_lines = lines_again (fetch_answer b number) (eqb (length l) record_length) (record_answer R) _

  -- a list of a record's length is stored as the record that it is
  module _ (sized : length l ≡ record_length) where
    pub as_record_lem : store_numbers_answer b number l ≡ store_answer b number R
    unfolding store_answer list_answer numbers_record ◌when◌ ◌or_else◌
    as_record_lem = store_lines ∙ rw (eq-eqb _ _ sized) refl

    pub after_record : after_store_numbers b number l ≡ after_store b number R
    unfolding after_store_numbers after_store
    after_record = rw as_record_lem (done_again (store_answer b number R) _ b)

  -- the pile is found
  module _ (found : desk_answer 0 b number ≡ 0) where
    abbrev n : ℕ
    n = desk_count 0 b number

    abbrev at : ℕ
    at = desk_start 0 b number

    pub opening_is : (p : Pile) → same_opening n p (body_view n b at) ≡ same_opening (desks b) p (pile_of b (place b number))
    unfolding pile_of
    opening_is p = ap₂ (λ (n at : ℕ). same_opening n p (body_view n b at)) (found_count 0 b number found) (found_start 0 b number found)

    -- and the list packed over its body
    module _ (passes : list_answer l ≡ 0) (same : get_or l 0 0 ≡ n) where
      some : 1 ≤ get_or l 0 0
      some = rw same (some_desks b number found)

      few : get_or l 0 0 ≤ 8
      few = rw same (few_desks b number found)

      room : at + body_length (get_or l 0 0) ≤ length b
      room = rw same (body_room b number found)

      pub packs : pack_answer l at (length b) ≡ 0
      unfolding pack_answer between ◌and◌ ◌when◌ ◌or_else◌
      packs = rw (eq-eqb _ _ (list_sized l passes), le-leb _ _ some, le-leb _ _ few, le-ltb _ _ room) refl

      pub packed : store_numbers_answer b number l ≡ 0 → after_pack l at b ≡ after_store_numbers b number l
      unfolding after_store
      packed stored =
          let sized = list_sized l passes in
          pack_leaves l at b sized some few room refl
          ∙ ap₂ (λ (at n : ℕ). sets b at (body_bytes n (record_view R))) (found_start 0 b number found) (same ∙ found_count 0 b number found)
          ∙ sym (after_record sized ∙ when_accepted _ _ _ (sym (as_record_lem sized) ∙ stored))

pub ruleset stores = (refusals, table, and_both, and_left_fails, and_right_fails, desk_0_fetch, when_refused, store_lines, list_sized, few_desks, body_room, opening_is, found_count, packs, packed)

-- a record's own numbers are stored as the record
module _ (b : List ℕ) (number : ℕ) (r : Record) (shares : length r.shares ≡ share_places) (tallies : length r.tallies ≡ tally_places) where
  again : numbers_record (record_numbers r) ≡ r
  again = numbers_again r shares tallies

  sized : length (record_numbers r) ≡ record_length
  sized = length_record r shares tallies

  pub record_stored : store_numbers_answer b number (record_numbers r) ≡ store_answer b number r
  record_stored = as_record_lem b number (record_numbers r) sized ∙ ap (store_answer b number) again

  pub record_left : after_store_numbers b number (record_numbers r) ≡ after_store b number r
  record_left = after_record b number (record_numbers r) sized ∙ ap (after_store b number) again
