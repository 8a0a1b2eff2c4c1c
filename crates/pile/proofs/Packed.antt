-- A record as a list is judged as the record is; and the body that the list of a lawful record packs to has the record's rights and tonnage, none of which is
-- above the top.
-- Assumes nothing.
use Prim.Native.Nat.{ℕ, ◌+◌, ◌≤◌, ◌<◌}
use native.Mathlib.Omega.{arith}
use mathlib.Core.Path.{◌≡◌, sym, ◌∙◌}
use mathlib.Core.Bool.{true}
use mathlib.Core.List.{List}
use lib.ListN.{length}
use borrow.Author.Tests.{le-leb, le-ltb, eq-eqb}
use Rattle.rules.specs.Loops.{◌and◌, between}
use Rattle.rules.specs.Refusals.{◌when◌, ◌or_else◌}
use Rattle.rules.specs.Pile.{Side, rights, tonnage, top_limit}
use Rattle.rules.specs.Layout.{body_length, body_view}
use Rattle.rules.specs.Record.{Record, record_view, record_answer, share_places, tally_places}
use Rattle.rules.proofs.Loops.Logic.{and_both}
use Rattle.rules.proofs.Pile.Agree.{Agree, rights_cong, tonnage_cong}
use Rattle.rules.proofs.Pile.Tonnage.{tonnage_within, rights_most}
use Rattle.rules.proofs.Record.Facts.{record_facts}
use Rattle.audit.specs.Audits.{body_there, rights_in, tonnage_in}
use Rattle.layout.proofs.Short.{body_most}
use Rattle.audit.proofs.DeskRights.{desk_there, tonnage_there}
use Rattle.padding.specs.Lists.{record_numbers, list_answer, pack_answer}
use Rattle.padding.proofs.Checked.{packed_agrees}
use Rattle.pile.specs.Inner.{PackedAs}
use Rattle.pile.proofs.RecordNumbers.{length_record, numbers_again}

pub list_answer_lem : (r : Record) → length r.shares ≡ share_places → length r.tallies ≡ tally_places → list_answer (record_numbers r) ≡ record_answer r
unfolding list_answer ◌when◌ ◌or_else◌
list_answer_lem r shares tallies = rw (eq-eqb _ _ (length_record r shares tallies), numbers_again r shares tallies)

-- the list of a lawful record is packed where there is room for any body
pub packs : (r : Record) → length r.shares ≡ share_places → length r.tallies ≡ tally_places → record_answer r ≡ 0 → pack_answer (record_numbers r) 0 648 ≡ 0
unfolding pack_answer record_numbers between ◌and◌ ◌when◌ ◌or_else◌
packs r shares tallies passed =
    let desks = record_facts r passed in
    rw (
      eq-eqb _ _ (length_record r shares tallies),
      le-leb _ _ desks.desks_least,
      le-leb _ _ desks.desks_most,
      le-ltb 648 (0 + body_length r.n) (omega (arith, body_most r.n desks.desks_most)),
    )

-- the body of a lawful record
module _ (r : Record) {bytes : List ℕ} (packed : PackedAs r bytes) where
  agrees : Agree r.n (body_view r.n bytes 0) (record_view r)
  unfolding record_numbers
  agrees =
      rw (numbers_again r packed.arrays.shares_long packed.arrays.tallies_long)
      at (packed_agrees (record_numbers r) (list_answer_lem r packed.arrays.shares_long packed.arrays.tallies_long ∙ packed.lawful) packed.body)

  there : body_there r.n 0 (length bytes) ≡ true
  unfolding body_there between
  there =
      let desks = record_facts r packed.lawful in
      and_both (and_both (le-leb _ _ desks.desks_least) (le-leb _ _ desks.desks_most)) (le-leb (0 + body_length r.n) (length bytes) (omega (arith, packed.long, body_most r.n desks.desks_most)))

  pub rights_read : (s : Side) (i : ℕ) → i < r.n → rights_in s r.n 0 bytes i ≡ rights r.n (record_view r) s i
  rights_read s i l = sym (desk_there s r.n 0 bytes i there l) ∙ rights_cong _ _ _ agrees s i l

  pub rights_small : (s : Side) (i : ℕ) → i < r.n → rights_in s r.n 0 bytes i ≤ top_limit
  rights_small s i l = rw (rights_read s i l) (rights_most r.n (record_view r) (record_facts r packed.lawful).pile s i l)

  pub tonnage_read : tonnage_in r.n 0 bytes ≡ tonnage r.n (record_view r)
  tonnage_read = sym (tonnage_there r.n 0 bytes there) ∙ tonnage_cong _ _ _ agrees

  pub tonnage_small : tonnage_in r.n 0 bytes ≤ top_limit
  tonnage_small =
      let f = (record_facts r packed.lawful).pile in
      rw tonnage_read (omega (arith, (tonnage_within r.n (record_view r) f).1, f.opening.top_limit_lem))
