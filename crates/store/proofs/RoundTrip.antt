-- A list of a record's length and the record that it is are one, so what holds of fetching and storing records holds of lists.
-- Assumes nothing.
use Prim.Native.Nat.{ℕ, ◌+◌, ◌≤◌}
use native.Mathlib.Omega.{arith}
use mathlib.Core.Path.{◌≡◌, refl, ap, sym, ◌∙◌}
use mathlib.Core.List.{List, [], ◌∷◌, ◌++◌}
use lib.ListN.{length, get_or}
use lib.Seq.{sets, take_all}
use borrow.Author.Tests.{eqb-true, ltb-false, le-ltb}
use Rattle.rules.specs.Numbers.{part}
use Rattle.rules.specs.Book.{fetch_answer}
use Rattle.rules.specs.Record.{Record, share_places, tally_places, fetched, InMemory}
use Rattle.rules.proofs.Loops.Refusals.{when_done, when_not_done, or_else_first, or_else_rest, none_met, not_met, when_accepted}
use Rattle.rules.proofs.Loops.Pieces.{part_add}
use Rattle.rules.proofs.Loops.Parts.{length_part}
use Rattle.rules.proofs.Loops.Sets.{part_sets}
use Rattle.rules.proofs.Record.RecordOf.{length_shares, length_tallies}
use Rattle.rules.proofs.Record.RoundTrip.{fetched_is, fetch_store, store_fetch}
use Rattle.padding.specs.Lists.{shares_at, tallies_at, record_length, body_numbers, record_numbers, numbers_record}
use Rattle.pile.proofs.RecordNumbers.{length_record}
use Rattle.store.specs.Numbers.{fetch_numbers_answer, after_fetch_numbers, store_numbers_answer}
use Rattle.store.specs.Laws.{fetched_numbers, FetchStoreNumbers, StoreFetchNumbers}
use Rattle.store.proofs.Lists.{as_record_lem, after_record, record_stored, record_left}

-- a record's numbers are as many as a list must have
sized : (r : Record) → InMemory r → length (record_numbers r) ≡ record_length
sized r arrays = length_record r arrays.shares_long arrays.tallies_long

-- and a list of that length is the numbers of its record
first_three : (l : List ℕ) → 3 ≤ length l → part 0 3 l ≡ get_or l 0 0 ∷ get_or l 1 0 ∷ get_or l 2 0 ∷ []
first_three [] s = absurd (omega arith)
first_three (x ∷ []) s = absurd (omega arith)
first_three (x ∷ y ∷ []) s = absurd (omega arith)
first_three (x ∷ y ∷ z ∷ l) s = refl

module _ (l : List ℕ) (long : length l ≡ record_length) where
  list_in_memory : InMemory (numbers_record l)
  unfolding numbers_record
  list_in_memory =
      record {
        shares_long = length_part shares_at share_places l (omega (arith, long));
        tallies_long = length_part tallies_at tally_places l (omega (arith, long));
      }

  list_again : record_numbers (numbers_record l) ≡ l
  unfolding record_numbers body_numbers numbers_record
  list_again =
      ap (λ (front : List ℕ). front ++ (part shares_at share_places l ++ part tallies_at tally_places l)) (sym (first_three l (omega (arith, long))))
      ∙ ap (λ (back : List ℕ). part 0 3 l ++ back) (sym (part_add shares_at share_places tally_places l))
      ∙ sym (part_add 0 3 (share_places + tally_places) l)
      ∙ take_all record_length l (omega (arith, long))

-- what is fetched stands at the start of a list with room
module _ (b : List ℕ) (number : ℕ) (out : List ℕ) (found : fetch_answer b number ≡ 0) (room : record_length ≤ length out) where
  fetched_arrays : InMemory (fetched b number)
  fetched_arrays =
      rw (fetched_is b number found) (record { shares_long = length_shares _ _; tallies_long = length_tallies _ _ })

  answered : fetch_numbers_answer b number (length out) ≡ 0
  unfolding fetch_numbers_answer
  answered = none_met found (not_met 8 (le-ltb _ _ room))

  fetched_list : fetched_numbers b number out ≡ record_numbers (fetched b number)
  unfolding after_fetch_numbers
  fetched_list =
      let numbers = record_numbers (fetched b number) in
      let long = sized (fetched b number) fetched_arrays in
      ap (part 0 record_length) (when_accepted _ _ _ answered)
      ∙ ap (λ (m : ℕ). part 0 m (sets out 0 numbers)) (sym long)
      ∙ part_sets out 0 numbers (omega (arith, long))

pub fetch_store_numbers : FetchStoreNumbers
unfolding fetch_numbers_answer
fetch_store_numbers b number out octets accepted =
    let found = or_else_first _ _ accepted in
    let room = ltb-false _ _ (when_done _ _ (or_else_rest _ _ accepted)) in
    let r = fetched b number in
    let arrays = fetched_arrays b number out found room in
    let restored = fetch_store b number octets found in
    rw (fetched_list b number out found room) (
      record_stored b number r arrays.shares_long arrays.tallies_long ∙ restored.0,
      record_left b number r arrays.shares_long arrays.tallies_long ∙ restored.1,
    )

pub store_fetch_numbers : StoreFetchNumbers
unfolding store_numbers_answer
store_fetch_numbers b number l out octets accepted room =
    let long : length l ≡ record_length = eqb-true _ _ (when_not_done 2 _ (or_else_first _ _ (or_else_rest _ _ accepted))) in
    let kept = store_fetch b number (numbers_record l) octets (list_in_memory l long) (sym (as_record_lem b number l long) ∙ accepted) in
    rw (after_record b number l long) (
      answered _ number out kept.0 room,
      fetched_list _ number out kept.0 room ∙ ap record_numbers kept.1 ∙ list_again l long,
    )
