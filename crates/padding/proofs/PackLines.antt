-- Packing a list for 1 to 8 desks: the last line of the table, and what is left where it refuses nothing; and what the lines are opened by.
-- Assumes nothing.
use Prim.Native.Nat.{ℕ, suc, ◌+◌, ◌≤◌}
use mathlib.Core.Path.{refl, ◌≡◌, sym, ap, ◌∙◌}
use mathlib.Core.List.{List}
use lib.ListN.{length, get_or}
use lib.Seq.{sets}
use lib.Dec.{ltb}
use borrow.Author.Tests.{le-leb, le-ltb, eq-eqb}
use Rattle.rules.specs.Loops.{◌and◌, between, flat}
use Rattle.rules.specs.Refusals.{◌when◌, ◌or_else◌, done}
use Rattle.rules.specs.Numbers.{encode}
use Rattle.rules.specs.Layout.{body_length, body_bytes}
use Rattle.rules.specs.Record.{record_view}
use Rattle.rules.proofs.Loops.Refusals.{not_met, when_accepted}
use Rattle.padding.specs.Lists.{record_length, numbers_record, pack_answer, after_pack}
use Rattle.padding.specs.Inner.{packed_row}
use Rattle.padding.proofs.PackedRows.{body_packed}

-- a list of a record's length, and for 1 to 8 desks
module _ (l : List ℕ) (at : ℕ) (b : List ℕ) (sized : length l ≡ record_length) (some : 1 ≤ get_or l 0 0) (few : get_or l 0 0 ≤ 8) where
  pub by_room : pack_answer l at (length b) ≡ 8 when ltb (length b) (at + body_length (get_or l 0 0))
  unfolding pack_answer between ◌and◌ ◌when◌ ◌or_else◌
  by_room = rw (eq-eqb _ _ sized, le-leb _ _ some, le-leb _ _ few) refl

  -- where nothing refuses it
  pub pack_leaves : at + body_length (get_or l 0 0) ≤ length b → {after : List ℕ} → after ≡ after_pack l at b
      → after ≡ sets b at (body_bytes (get_or l 0 0) (record_view (numbers_record l)))
  unfolding after_pack
  pack_leaves room is = is ∙ when_accepted _ _ _ (by_room ∙ not_met 8 (le-ltb _ _ room))

  pub rows_packed : at + body_length (get_or l 0 0) ≤ length b → after_pack l at b ≡ sets b at (flat (suc (get_or l 0 0)) (λ r. encode (packed_row (get_or l 0 0) l r)))
  rows_packed room = pack_leaves room refl ∙ ap (sets b at) (sym (body_packed (get_or l 0 0) few l))

-- what the packing of a list is opened by
unfoldable pub open_pack : Unit {0}
unfolding between ◌and◌ ◌when◌ ◌or_else◌ done pack_answer after_pack
open_pack = tt
