-- Fetching and storing are inverse: a fetched pile stored again leaves the file as it was, and a stored pile is fetched unaltered.
-- Assumes nothing.
use Prim.Native.Nat.{ℕ, ◌+◌, ◌≤◌, ◌<◌}
use native.Mathlib.Nat.{ne_of_lt}
use native.Mathlib.Omega.{arith}
use mathlib.Core.Path.{◌≡◌, refl, ap, subst, ◌∙◌}
use mathlib.Core.Bool.{not}
use mathlib.Core.List.{List}
use lib.ListN.{length}
use lib.Dec.{eqb}
use lib.Seq.{sets}
use borrow.Author.Tests.{eqb-true, eq-eqb, ne_eqb}
use Rattle.rules.specs.Pile.{Pile}
use Rattle.rules.specs.Layout.{head_of, body_length, body_at, desks, piles, pile_number, pile_of, book_bytes}
use Rattle.rules.specs.Book.{book_answer, place, absent, fetch_answer}
use Rattle.rules.specs.Record.{Record, record_view, record_answer, record_of, fetched, store_answer, after_store, InMemory, FetchStore, StoreFetch}
use Rattle.rules.proofs.Loops.Logic.{and_left, and_both}
use Rattle.rules.proofs.Loops.Refusals.{when_not_done, not_met, none_met, or_else_first, or_else_rest, when_accepted}
use Rattle.rules.proofs.Loops.Parts.{sets_part}
use Rattle.rules.proofs.Bytes.Numbers.{Octets}
use Rattle.rules.proofs.Pile.Facts.{PileFacts, facts}
use Rattle.rules.proofs.Pile.Agree.{Agree, same_opening_lem}
use Rattle.rules.proofs.File.Written.{open_head}
use Rattle.rules.proofs.File.Body.{write_body, body_cong}
use Rattle.rules.proofs.File.Positions.{body_within}
use Rattle.rules.proofs.File.Readable.{BookFacts, book_facts}
use Rattle.rules.proofs.File.LawfulBook.{Frame, Lawful, readable_frame, written_place, written_pile, written_readable}
use Rattle.rules.proofs.File.Found.{found_readable, found_place, desk_0_fetch}
use Rattle.rules.proofs.File.PutBody.{replaced, replaced_lawful, overwritten}
use Rattle.rules.proofs.Record.Facts.{record_facts}
use Rattle.rules.proofs.Record.RecordOf.{record_agrees}
use Rattle.rules.proofs.Record.OfBody.{body_record_lem}
use Rattle.rules.proofs.Record.Agreeing.{record_of_agreeing}

pub body_in_lem : (b : List ℕ) → BookFacts b → (k : ℕ) → k < piles b → body_at (head_of b) k + body_length (desks b) ≤ length b
body_in_lem b f k l = omega (arith, f.sized, body_within (head_of b) k l)

-- a pile that is fetched
module _ (b : List ℕ) (number : ℕ) (found : fetch_answer b number ≡ 0) where
  pub fetched_readable : book_answer b ≡ 0
  fetched_readable = found_readable 0 b number (desk_0_fetch b number ∙ found)

  pub fetched_place : place b number < piles b
  fetched_place = found_place 0 b number (desk_0_fetch b number ∙ found)

  pub fetched_is : fetched b number ≡ record_of (desks b) (pile_of b (place b number))
  unfolding fetched
  fetched_is = when_accepted _ _ _ found

-- fetching and storing again restores the file
module _ (b : List ℕ) (number : ℕ) (o : Octets b) (found : fetch_answer b number ≡ 0) where
  abbrev n : ℕ
  n = desks b

  abbrev k : ℕ
  k = place b number

  abbrev P : Pile
  P = pile_of b k

  book : BookFacts b
  book = book_facts b (fetched_readable b number found)

  agrees : Agree n (record_view (record_of n P)) P
  agrees = record_agrees n P book.sizes.desks_most

  store_passes : store_answer b number (record_of n P) ≡ 0
  unfolding store_answer record_of
  store_passes =
      none_met found (none_met (body_record_lem b k (fetched_readable b number found) (fetched_place b number found))
      (not_met 30 (ap not (and_both (eq-eqb n n refl) (same_opening_lem n _ P agrees.floor agrees.top agrees.share)))))

  store_restores : after_store b number (record_of n P) ≡ b
  unfolding after_store pile_of
  store_restores =
      let fits = body_in_lem b book k (fetched_place b number found) in
      when_accepted _ _ _ store_passes
      ∙ ap (sets b (body_at (head_of b) k)) (body_cong n _ P agrees ∙ write_body n b (body_at (head_of b) k) o fits)
      ∙ sets_part (body_at (head_of b) k) (body_length n) b fits

  restored : (store_answer b number (fetched b number) ≡ 0) × (after_store b number (fetched b number) ≡ b)
  restored = rw (fetched_is b number found) (store_passes, store_restores)

pub fetch_store : FetchStore
fetch_store = restored

-- a stored pile is fetched unaltered: the file is then the one written with that pile replaced
module _ (b : List ℕ) (number : ℕ) (r : Record) (o : Octets b) (arrays : InMemory r) (stored : store_answer b number r ≡ 0) where
  found : fetch_answer b number ≡ 0
  unfolding store_answer
  found = or_else_first _ _ stored

  passed : record_answer r ≡ 0
  unfolding store_answer
  passed = or_else_first _ _ (or_else_rest _ _ stored)

  own_desks : r.n ≡ desks b
  unfolding store_answer
  own_desks = eqb-true _ _ (and_left _ _ (when_not_done _ _ (or_else_rest _ _ (or_else_rest _ _ stored))))

  before : BookFacts b
  before = book_facts b (fetched_readable b number found)

  abbrev after : ℕ → Pile
  after = replaced (pile_of b) (place b number) (record_view r)

  abbrev written : List ℕ
  written = book_bytes (desks b) (piles b) (pile_number b) after

  after_store_lem : after_store b number r ≡ written
  unfolding after_store
  after_store_lem =
      when_accepted _ _ _ stored
      ∙ overwritten b o (fetched_readable b number found) (place b number) (fetched_place b number found) (record_view r)

  frame : Frame (desks b) (piles b) (pile_number b)
  frame = readable_frame b before

  lawful : Lawful (desks b) (piles b) after
  lawful =
      replaced_lawful _ _ _ _ _ (λ k l. facts (desks b) (pile_of b k) (before.bodies k l))
      (subst (λ (n : ℕ). PileFacts n (record_view r)) own_desks (record_facts r passed).pile)

  written_at : place written number ≡ place b number
  unfolding place
  written_at = written_place _ _ _ frame after number

  stored_found : fetch_answer written number ≡ 0
  unfolding fetch_answer absent open_head
  stored_found =
      none_met (written_readable _ _ _ frame after lawful)
      (not_met 10 (ap (λ (k : ℕ). eqb k (piles b)) written_at ∙ ne_eqb _ _ (ne_of_lt (fetched_place b number found))))

  stored_pile : Agree (desks b) (pile_of written (place b number)) (record_view r)
  stored_pile = rw (eq-eqb (place b number) (place b number) refl) at (written_pile _ _ _ frame after lawful (place b number) (fetched_place b number found))

  unaltered : fetched written number ≡ r
  unfolding open_head
  unaltered =
      fetched_is written number stored_found
      ∙ ap (λ (k : ℕ). record_of (desks b) (pile_of written k)) written_at
      ∙ subst (λ (n : ℕ). (p : Pile) → Agree n p (record_view r) → record_of n p ≡ r) own_desks
      (record_of_agreeing r (record_facts r passed) arrays.shares_long arrays.tallies_long) _ stored_pile

  fetched_again : (fetch_answer (after_store b number r) number ≡ 0) × (fetched (after_store b number r) number ≡ r)
  fetched_again = rw after_store_lem (stored_found, unaltered)

pub store_fetch : StoreFetch
store_fetch = fetched_again
