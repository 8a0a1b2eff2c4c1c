-- A list's record is judged as the body that it packs to, and by the zeros past n.
-- Assumes nothing.
use Prim.Native.Nat.{ℕ, suc, ◌+◌, ◌*◌, ◌≤◌, ◌<◌}
use native.Mathlib.Decide.{ℕ_discrete}
use native.Mathlib.Nat.{le_of_eq}
use native.Mathlib.Omega.{arith}
use mathlib.Core.Path.{◌≡◌, refl, ap, sym, ◌∙◌}
use mathlib.Core.Logic.{◌≢◌, by_cases}
use mathlib.Core.Bool.{Bool, true, false, not}
use mathlib.Core.List.{List}
use lib.ListN.{length, get_or, replicate, length-replicate}
use lib.Seq.{take_all}
use lib.Dec.{lit<, lit≤, eqb}
use borrow.Author.Tests.{le-leb, le-ltb, leb-true, eq-eqb, eqb-true}
use Rattle.rules.specs.Loops.{◌and◌, between, every}
use Rattle.rules.specs.Refusals.{◌when◌, ◌or_else◌, first}
use Rattle.rules.specs.Numbers.{part}
use Rattle.rules.specs.Pile.{Side, draw, tip, Pile, opening_lawful, tallies_lawful, lawful, pile_answer}
use Rattle.rules.specs.Layout.{desk_limit, column, body_length, body_view, body_bytes}
use Rattle.rules.specs.Record.{Record, record_cell, record_view, record_answer, row_places, unused_shares, unused_places}
use Rattle.rules.proofs.Loops.Logic.{and_right, in_range}
use Rattle.rules.proofs.File.BodySize.{size_in_range}
use Rattle.refusal.proofs.Refused.{refusals}
use Rattle.rules.proofs.Loops.Refusals.{when_not_done, or_else_passes, or_else_first, or_else_rest, when_accepted}
use Rattle.rules.proofs.Loops.Sets.{part_sets}
use Rattle.rules.proofs.Pile.Agree.{Agree, answer_cong}
use Rattle.rules.proofs.File.Body.{Fits, lawful_fits, column_below, length_body, read_body}
use Rattle.rules.proofs.Record.Facts.{RecordFacts, record_facts}
use Rattle.std.specs.Prelude.{Result, Ok, Err}
use Rattle.std.specs.Result.{result_eq}
use denote.Enum.Bare.{sameb, same_true, same_false}
use Rattle.refusal.specs.contracts.Refusal.{the_type}
use Rattle.refusal.specs.declared.Refusal.{Refusal}
use Rattle.refusal.specs.declared.Refusal.TheVariants.{OpeningUnlawful}
use Rattle.refusal.specs.Answers.{number_of, answered}
use Rattle.audit.specs.Audits.{bodies_answer}
use Rattle.audit.proofs.Audits.{shape_fits}
use Rattle.layout.proofs.Short.{body_most}
use Rattle.padding.specs.Lists.{record_length, numbers_record, pack_answer, after_pack, list_answer}
use Rattle.padding.proofs.Cells.{record_cell_lem}

only_5 : (e : Refusal) → number_of e ≡ 5 → e ≡ OpeningUnlawful
only_5 e is = grind arith

-- what `== Err(OpeningUnlawful)` tells of an answer
module _ (same : Unit {0} → Unit {0} → Bool) where
  pub told_5 : (r : Result (Unit {0}) Refusal) → result_eq same (sameb the_type) r (Err OpeningUnlawful) ≡ true → answered r ≡ 5
  told_5 (Ok x) e = cc
  told_5 (Err refusal) e = ap number_of (same_true the_type tt refusal OpeningUnlawful e)

  pub not_told_5 : (r : Result (Unit {0}) Refusal) → result_eq same (sameb the_type) r (Err OpeningUnlawful) ≡ false → answered r ≢ 5
  not_told_5 (Ok x) e is = cc
  not_told_5 (Err refusal) e is = same_false the_type refusal OpeningUnlawful e (only_5 refusal is)

-- the lines of a body's table and of a record's, by what each test says: opening, unused shares, tallies, unused places, rights
abbrev body_lines : Bool → Bool → Bool → ℕ
body_lines o t r = 5 when not o or_else 6 when not t or_else 7 when not r

abbrev record_lines : Bool → Bool → Bool → Bool → Bool → ℕ
record_lines o u t v r = 5 when not (o and u) or_else 6 when not (t and v) or_else 7 when not r

opening_5 : (o u t v r : Bool) → body_lines o t r ≡ 5 → 5 ≡ record_lines o u t v r
unfolding ◌when◌ ◌or_else◌ ◌and◌
opening_5 false u t v r e = refl
opening_5 true u false v r e = omega (arith, e)
opening_5 true u true v false e = omega (arith, e)
opening_5 true u true v true e = omega (arith, e)

shares_5 : (o t v r : Bool) → 5 ≡ record_lines o false t v r
unfolding ◌when◌ ◌or_else◌ ◌and◌
shares_5 false t v r = refl
shares_5 true t v r = refl

places_6 : (o t r : Bool) → body_lines o t r ≢ 5 → 6 ≡ record_lines o true t false r
unfolding ◌when◌ ◌or_else◌ ◌and◌
places_6 false t r d = absurd (d refl)
places_6 true false r d = refl
places_6 true true r d = refl

all_used : (o t r : Bool) → body_lines o t r ≡ record_lines o true t true r
unfolding ◌when◌ ◌or_else◌ ◌and◌
all_used false t r = refl
all_used true false r = refl
all_used true true r = refl

-- what a list that was packed has, and that one that was not is refused by the same number
module _ (l : List ℕ) where
  abbrev inside : Bool
  inside = between 1 desk_limit (get_or l 0 0)

  pub pack_told : pack_answer l 0 648 ≡ 0 → (length l ≡ record_length) × (1 ≤ get_or l 0 0) × (get_or l 0 0 ≤ 8)
  unfolding pack_answer
  pack_told e =
      let range = in_range 1 desk_limit _ (when_not_done 1 _ (or_else_first _ _ (or_else_rest _ _ e))) in
      (eqb-true _ _ (when_not_done 2 _ (or_else_first _ _ e)), range.0, range.1)

  room : inside ≡ true → 0 + body_length (get_or l 0 0) ≤ 648
  unfolding between
  room in_range = omega (arith, body_most (get_or l 0 0) (leb-true _ _ (and_right _ _ in_range)))

  shape : {m : ℕ} (sized in_range : Bool) → eqb (length l) record_length ≡ sized → inside ≡ in_range → m ≡ pack_answer l 0 648 → m ≢ 0 → m ≡ list_answer l
  unfolding pack_answer list_answer record_answer numbers_record ◌when◌ ◌or_else◌
  shape false b other _ e d = rw other at e ∙ sym (rw other)
  shape true false sized out e d = rw (sized, out) at e ∙ sym (rw (sized, out))
  shape true true sized within e d = absurd (d (rw (sized, within, le-ltb _ _ (room within)) at e))

  pub shape_refused : pack_answer l 0 648 ≢ 0 → pack_answer l 0 648 ≡ list_answer l
  shape_refused = shape _ _ refl refl refl

-- what tells a `grind` of a list that is packed, or is not
pub ruleset packs = (refusals, pack_told, shape_refused, size_in_range, body_most)

-- the bytes of the body that a list packs to
packed_bytes_lem : (l : List ℕ) → get_or l 0 0 ≤ 8 → {body : List ℕ} → body ≡ after_pack l 0 (replicate 648 0) → pack_answer l 0 648 ≡ 0
    → part 0 (body_length (get_or l 0 0)) body ≡ body_bytes (get_or l 0 0) (record_view (numbers_record l))
unfolding after_pack
packed_bytes_lem l few packed done =
    let n = get_or l 0 0 in
    let P = record_view (numbers_record l) in
    rw (packed ∙ when_accepted _ _ _ done, ← length_body n P)
    (part_sets (replicate 648 0) 0 (body_bytes n P) (omega (arith, length_body n P, body_most n few, length-replicate {A = ℕ} 648 0)))

-- a list whose record is lawful has, packed, a body of the same numbers
module _ (l : List ℕ) (passes : list_answer l ≡ 0) where
  abbrev R : Record
  R = numbers_record l

  list_facts : RecordFacts R
  unfolding list_answer
  list_facts = record_facts R (or_else_rest _ _ passes)

  list_packs : pack_answer l 0 648 ≡ 0
  list_packs = by_cases (ℕ_discrete (pack_answer l 0 648) 0) (λ z. z) (λ d. shape_refused l d ∙ passes)

  pub packed_agrees : {body : List ℕ} → body ≡ after_pack l 0 (replicate 648 0) → Agree (get_or l 0 0) (body_view (get_or l 0 0) body 0) (record_view R)
  unfolding numbers_record
  packed_agrees {body} packed =
      read_body (get_or l 0 0) (record_view R) (lawful_fits _ _ list_facts.pile) body 0 (packed_bytes_lem l list_facts.desks_most packed list_packs)

module _ (l : List ℕ) (small : (k : ℕ) → get_or l k 0 < 4294967296) (packs : pack_answer l 0 648 ≡ 0) where
  abbrev n : ℕ
  n = get_or l 0 0

  abbrev P : Pile
  P = record_view (numbers_record l)

  some : 1 ≤ n
  some = (pack_told l packs).1

  few : n ≤ 8
  few = (pack_told l packs).2

  cell_small : (r c : ℕ) → r < 9 → c < row_places → record_cell (numbers_record l) r c < 4294967296
  cell_small r c r<9 c<row = rw (record_cell_lem l r c r<9 c<row) (small _)

  fits : Fits n P
  fits =
      record {
        floor = cell_small 0 0 (lit< tt) (lit< tt);
        top = cell_small 0 1 (lit< tt) (lit< tt);
        share = λ s i i<n. cell_small 0 (column 8 s i) (lit< tt) (column_below 8 s i (omega (arith, few)));
        earned = λ s i i<n. earned s i (omega (arith, few));
        give = λ s i j i<n j<n. cell_small (suc i) (column 8 s j) (omega (arith, few)) (column_below 8 s j (omega (arith, few)));
      }
    where
      earned : (s : Side) (i : ℕ) → i < 8 → P.earned s i < 4294967296
      earned draw i i<8 = cell_small (suc i) 0 (omega arith) (lit< tt)
      earned tip i i<8 = cell_small (suc i) 1 (omega arith) (lit< tt)

  -- the body that the list packs to
  module _ {body : List ℕ} {size m : ℕ} (packed : body ≡ after_pack l 0 (replicate 648 0)) (is : size ≡ body_length n)
      (judged : m ≡ bodies_answer n 1 0 (part 0 size body)) where
    written : part 0 size body ≡ body_bytes n P
    written = rw is (packed_bytes_lem l (few) packed packs)

    at_start : part (0 + 0 * body_length n) (body_length n) (part 0 size body) ≡ body_bytes n P
    at_start =
        ap (λ (at : ℕ). part at (body_length n) (part 0 size body)) {x = 0 + 0 * body_length n} {y = 0} (omega arith) ∙ ap (part 0 (body_length n)) written
        ∙ take_all (body_length n) (body_bytes n P) (le_of_eq (length_body n P))

    pub body_answer : m ≡ pile_answer n P
    unfolding bodies_answer first ◌or_else◌
    body_answer =
        judged
        ∙ or_else_passes (sym (shape_fits n 1 0 (length (part 0 size body)) (some, few) (lit≤ tt) (ap length written ∙ length_body n P ∙ omega arith))) _
        ∙ answer_cong n _ P (read_body n P fits (part 0 size body) (0 + 0 * body_length n) at_start)

  -- the lines of a list's table
  module _ {m : ℕ} (is : m ≡ pile_answer n P) where
    as_record_lem : list_answer l ≡ record_lines (opening_lawful n P) (unused_shares n P) (every n (tallies_lawful n P)) (unused_places n P) (lawful n P)
    unfolding list_answer record_answer numbers_record between ◌when◌ ◌or_else◌ ◌and◌
    as_record_lem = rw (eq-eqb _ _ ((pack_told l packs).0), le-leb _ _ (some), le-leb _ _ few)

    pub unlawful_opening : m ≡ 5 → 5 ≡ list_answer l
    unfolding pile_answer
    unlawful_opening e = opening_5 (opening_lawful n P) _ (every n (tallies_lawful n P)) _ (lawful n P) (sym is ∙ e) ∙ sym as_record_lem

    -- the places past n were looked at in an array of the list's numbers
    module _ {desks : ℕ} (same : desks ≡ n) {array : List ℕ} (all : array ≡ l) where
      abbrev A : Pile
      A = record_view (numbers_record array)

      pub share_left : unused_shares desks A ≡ false → 5 ≡ list_answer l
      share_left e = rw (as_record_lem, rw (same, all) at e) (shares_5 (opening_lawful n P) (every n (tallies_lawful n P)) (unused_places n P) (lawful n P))

      module _ (other : m ≢ 5) (none : unused_shares desks A ≡ true) where
        pub place_left : unused_places desks A ≡ false → 6 ≡ list_answer l
        unfolding pile_answer
        place_left e =
            rw (as_record_lem, rw (same, all) at none, rw (same, all) at e)
            (places_6 (opening_lawful n P) (every n (tallies_lawful n P)) (lawful n P) (λ z. other (is ∙ z)))

        pub as_body : unused_places desks A ≡ true → m ≡ list_answer l
        unfolding pile_answer
        as_body e =
            rw (as_record_lem, rw (same, all) at none, rw (same, all) at e) (is ∙ all_used (opening_lawful n P) (every n (tallies_lawful n P)) (lawful n P))
