-- What an accepted opening writes, part by part: the head, an entry of the contents, a body, and front and bodies together.
-- Assumes nothing.
use Prim.Native.Nat.{ℕ, ◌+◌, ◌≤◌}
use native.Mathlib.Omega.{arith}
use mathlib.Core.Path.{◌≡◌, ap, ◌∙◌}
use mathlib.Core.List.{List}
use lib.ListN.{length}
use lib.Seq.{sets}
use borrow.Author.Tests.{le-leb, le-ltb, eq-eqb}
use Rattle.rules.specs.Loops.{◌and◌, between, flat}
use Rattle.rules.specs.Refusals.{◌when◌, ◌or_else◌}
use Rattle.rules.specs.Layout.{Head, body_length, front_length, body_bytes, head_bytes, entry_bytes, front_bytes, book_bytes, entry_at}
use Rattle.rules.specs.Record.{Record, share_places, tally_places, record_of}
use Rattle.rules.specs.Opening.{opened}
use Rattle.rules.proofs.Loops.Refusals.{when_accepted}
use Rattle.rules.proofs.Loops.Sets.{sets_then}
use Rattle.rules.proofs.File.Body.{body_cong}
use Rattle.rules.proofs.File.Front.{length_front}
use Rattle.rules.proofs.Record.RecordOf.{length_shares, length_tallies, record_agrees}
use Rattle.layout.specs.Positions.{after_put_head, after_put_entry}
use Rattle.layout.proofs.Positions.{position_is}
use Rattle.padding.specs.Lists.{record_numbers, pack_answer, after_pack}
use Rattle.padding.proofs.PackLines.{pack_leaves}
use Rattle.pile.proofs.RecordNumbers.{length_record, numbers_again}
use Rattle.opening.specs.declared.given.Given.{Given}
use Rattle.opening.specs.Inner.{number_in, pile_in, book_head}
use Rattle.opening.proofs.Done.{head_done, entry_done}

module _ (g : Given) where
  abbrev pub entry : ℕ → List ℕ
  entry = entry_bytes (book_head g) (number_in g)

  abbrev pub body : ℕ → List ℕ
  body k = body_bytes g.desks (pile_in g k)

  -- the record of a given pile makes its body, packed where it has room
  module _ (k : ℕ) where
    abbrev given_record : Record
    given_record = record_of g.desks (pile_in g k)

    given_shares : length given_record.shares ≡ share_places
    given_shares = length_shares g.desks (pile_in g k)

    given_tallies : length given_record.tallies ≡ tally_places
    given_tallies = length_tallies g.desks (pile_in g k)

    pub put_given : (b : List ℕ) (at : ℕ) → at + body_length g.desks ≤ length b → {r : Record} {numbers after : List ℕ} → r ≡ given_record → numbers ≡ record_numbers r
        → after ≡ after_pack numbers at b → after ≡ sets b at (body k)
    unfolding record_of record_numbers
    put_given b at room is listed packed =
        let numbers = rw is at listed in
        pack_leaves (record_numbers given_record) at b (length_record given_record given_shares given_tallies) g.desks_least g.desks_most room (rw numbers at packed)
        ∙ rw (numbers_again given_record given_shares given_tallies) (ap (sets b at) (body_cong g.desks _ _ (record_agrees g.desks (pile_in g k) g.desks_most)))

    pub pack_done : (b : List ℕ) (at : ℕ) → at + body_length g.desks ≤ length b → {r : Record} {numbers : List ℕ} → r ≡ given_record → numbers ≡ record_numbers r
        → pack_answer numbers at (length b) ≡ 0
    unfolding record_of record_numbers pack_answer between ◌and◌ ◌when◌ ◌or_else◌
    pack_done b at room is listed =
        let numbers = rw is at listed in
        let sized = length_record given_record given_shares given_tallies in
        rw (numbers, eq-eqb _ _ sized, le-leb _ _ g.desks_least, le-leb _ _ g.desks_most, le-ltb _ _ room)

  -- a head that has room, and the contents behind it, are the front
  pub put_front : (b : List ℕ) {h : Head} {between after : List ℕ} → 4 ≤ length b → h ≡ book_head g → between ≡ after_put_head h b
      → after ≡ sets between 4 (flat g.piles entry) → after ≡ sets b 0 (front_bytes (book_head g) (number_in g))
  unfolding after_put_head front_bytes head_bytes
  put_front b {h} room is head contents =
      let written = when_accepted _ (sets b 0 (head_bytes h)) b (head_done b room) in
      rw (contents, head, written, is) (sets_then b 0 (head_bytes (book_head g)) 4 (flat g.piles entry) (omega arith))

  -- an entry that has room; for 1 to 8 desks the position that it is written with is where the body starts
  pub put_entry : (b : List ℕ) (k : ℕ) {h : Head} {x : ℕ} {after : List ℕ} → entry_at k + 6 ≤ length b → h ≡ book_head g → x ≡ number_in g k
      → after ≡ after_put_entry h k x b → after ≡ sets b (entry_at k) (entry k)
  unfolding after_put_entry entry_bytes
  put_entry b k room is number put =
      put ∙ when_accepted _ _ _ (entry_done b k room) ∙ rw (is, number, position_is (book_head g) k g.desks_least g.desks_most)

  -- front, and then the bodies, are the opened book
  pub put_book : (b : List ℕ) {front after : List ℕ} → front ≡ sets b 0 (front_bytes (book_head g) (number_in g))
      → after ≡ sets front (front_length (book_head g)) (flat g.piles body) → after ≡ sets b 0 (opened g.desks g.piles g.numbers.now)
  unfolding opened book_bytes
  put_book b front bodies =
      let v : List ℕ = front_bytes (book_head g) (number_in g) in
      let long = length_front (book_head g) (number_in g) in
      rw (bodies, front) (sets_then b 0 v (front_length (book_head g)) (flat g.piles body) (omega (arith, long)))
