-- A pile of n desks made into a record: what stands at each of its places, used or not, and that the record is answered as the pile is.
-- Assumes nothing.
use Prim.Native.Nat.{ℕ, suc, ◌+◌, ◌*◌, ◌/◌, ◌%◌, ◌≤◌, ◌<◌}
use native.Mathlib.Nat.{mod-lt, div-add-mod', div-lt_iff_lt-mul}
use native.Mathlib.Omega.{arith}
use mathlib.Core.Path.{◌≡◌, refl, ap, sym, subst, ◌∙◌}
use mathlib.Core.List.{List, ◌∷◌}
use mathlib.Core.Bool.{Bool, true, false, cond}
use lib.ListN.{length, get_or, length-append}
use lib.Dec.{lit<}
use lib.Seq.{ext_get_or}
use borrow.Author.Tests.{le-leb, lt-ltb, le-ltb, eq-eqb}
use Rattle.rules.specs.Loops.{◌and◌, ◌or◌, between}
use Rattle.rules.specs.Refusals.{◌when◌, ◌or_else◌}
use Rattle.rules.specs.Pile.{Side, draw, tip, Pile, pile_answer}
use Rattle.rules.specs.Layout.{earned_column, column, row_of}
use Rattle.rules.specs.Record.{Record, record_view, record_answer, record_of, padded, padded_row, both_zero, unused_shares, unused_places, row_places, share_places, tally_places}
use Rattle.rules.proofs.Loops.Logic.{and_both, and_true}
use Rattle.rules.proofs.Loops.Every.{every_all}
use Rattle.rules.proofs.Loops.Pieces.{length_flat, getD_flat, length_list}
use Rattle.rules.proofs.Pile.Facts.{both_all}
use Rattle.rules.proofs.Pile.Agree.{Agree, answer_cong}
use Rattle.rules.proofs.File.Body.{length_row, row_column, by_column, column_below}

-- a place is used, or its number is 0
unused : (used : Bool) (f g : Side → ℕ) → ((s : Side) → f s ≡ cond used (g s) 0) → used or both_zero f ≡ true
unfolding ◌or◌
unused true f g h = refl
unused false f g h = both_all (λ s. eq-eqb _ _ (h s))

cond_cond : (a b : Bool) (x : ℕ) → cond a (cond b x 0) 0 ≡ cond (a and b) x 0
unfolding ◌and◌
cond_cond true b x = refl
cond_cond false b x = refl

-- a record whose unused places are 0 is answered as its pile is
as_pile : (r : Record) → 1 ≤ r.n → r.n ≤ 8 → unused_shares r.n (record_view r) ≡ true → unused_places r.n (record_view r) ≡ true
    → record_answer r ≡ pile_answer r.n (record_view r)
unfolding record_answer pile_answer between ◌when◌ ◌or_else◌
as_pile r low high shares places = simp (le-leb, shares, places, and_true)

pub padded_used : (n : ℕ) (f : ℕ → ℕ) (j : ℕ) → j < n → padded n f j ≡ f j
padded_used n f j l = ap (λ (b : Bool). cond b (f j) 0) (lt-ltb j n l)

pub padded_unused : (n : ℕ) (f : ℕ → ℕ) (j : ℕ) → n ≤ j → padded n f j ≡ 0
padded_unused n f j l = ap (λ (b : Bool). cond b (f j) 0) (le-ltb j n l)

module _ (n : ℕ) (p : Pile) where
  abbrev gives : ℕ → Side → ℕ → ℕ
  gives i s j = padded n (λ k. padded n (p.give s k) j) i

  length_padded : (i : ℕ) → length (padded_row n p i) ≡ row_places
  unfolding padded_row row_of
  length_padded i = length_row 8 (padded n (p.earned draw) i) (padded n (p.earned tip) i) (gives i)

  -- what the flat arrays hold at each place, used or not
  pub row_place : (i c : ℕ) → i < 8 → c < row_places → get_or (record_of n p).tallies (i * row_places + c) 0 ≡ get_or (padded_row n p i) c 0
  unfolding record_of
  row_place i c = getD_flat 8 row_places (padded_row n p) 0 (λ i _. length_padded i) i c

  pub length_shares : length (record_of n p).shares ≡ share_places
  unfolding record_of
  length_shares = simp (length-append, length_list)

  pub length_tallies : length (record_of n p).tallies ≡ tally_places
  unfolding record_of
  length_tallies = length_flat 8 row_places (padded_row n p) (λ i _. length_padded i)

  pub share_place : (s : Side) (j : ℕ) → j < 8 → (record_view (record_of n p)).share s j ≡ padded n (p.share s) j
  unfolding record_of row_of
  share_place = row_column 8 p.floor p.top (λ s. padded n (p.share s))

  pub earned_place : (s : Side) (i : ℕ) → i < 8 → (record_view (record_of n p)).earned s i ≡ padded n (p.earned s) i
  unfolding padded_row
  earned_place draw i l = row_place i 0 l (lit< tt)
  earned_place tip i l = row_place i 1 l (lit< tt)

  pub give_place : (s : Side) (i j : ℕ) → i < 8 → j < 8 → (record_view (record_of n p)).give s i j ≡ padded n (λ k. padded n (p.give s k) j) i
  unfolding padded_row row_of
  give_place s i j l m =
      row_place i (column 8 s j) l (column_below 8 s j m)
      ∙ row_column 8 (padded n (p.earned draw) i) (padded n (p.earned tip) i) (gives i) s j m

  -- arrays with these numbers at their places are the record's
  pub shares_are : (l : List ℕ) → length l ≡ share_places → ((s : Side) (j : ℕ) → j < 8 → get_or (p.floor ∷ p.top ∷ l) (column 8 s j) 0 ≡ padded n (p.share s) j)
      → l ≡ (record_of n p).shares
  unfolding record_of
  shares_are l len at =
      ext_get_or 0 l (record_of n p).shares (len ∙ sym length_shares) (λ k k<l.
      by_column 8 (λ c. 2 ≤ c → get_or (p.floor ∷ p.top ∷ l) c 0 ≡ get_or (p.floor ∷ p.top ∷ (record_of n p).shares) c 0)
      (λ z. absurd (omega arith)) (λ z. absurd (omega arith)) (λ s j j<8 _. at s j j<8 ∙ sym (share_place s j j<8)) (suc (suc k)) (omega arith) (omega arith))

  pub tallies_are : (l : List ℕ) → length l ≡ tally_places → ((s : Side) (i : ℕ) → i < 8 → get_or l (i * row_places + earned_column s) 0 ≡ padded n (p.earned s) i)
      → ((s : Side) (i j : ℕ) → i < 8 → j < 8 → get_or l (i * row_places + column 8 s j) 0 ≡ padded n (λ k. padded n (p.give s k) j) i)
      → l ≡ (record_of n p).tallies
  tallies_are l len earned give =
      ext_get_or 0 l _ (len ∙ sym length_tallies) (λ k k<l.
      let i<8 : k / row_places < 8 = (div-lt_iff_lt-mul (lit< tt)).1 (omega arith) in
      subst (λ (q : ℕ). get_or l q 0 ≡ get_or (record_of n p).tallies q 0) (div-add-mod' k row_places)
      (by_column 8 (λ c. get_or l (k / row_places * row_places + c) 0 ≡ get_or (record_of n p).tallies (k / row_places * row_places + c) 0)
      (earned draw (k / row_places) i<8 ∙ sym (earned_place draw (k / row_places) i<8)) (earned tip (k / row_places) i<8 ∙ sym (earned_place tip (k / row_places) i<8))
      (λ s j j<8. give s (k / row_places) j i<8 j<8 ∙ sym (give_place s (k / row_places) j i<8 j<8)) (k % row_places) (mod-lt k (lit< tt))))

  unused_shares_lem : unused_shares n (record_view (record_of n p)) ≡ true
  unfolding unused_shares
  unused_shares_lem = every_all 8 (λ j l. unused _ _ (λ s. p.share s j) (λ s. share_place s j l))

  unused_places_lem : unused_places n (record_view (record_of n p)) ≡ true
  unfolding unused_places
  unused_places_lem =
      every_all 8 (λ i l. and_both (unused _ _ (λ s. p.earned s i) (λ s. earned_place s i l))
      (every_all 8 (λ j m. unused _ _ (λ s. p.give s i j) (λ s. give_place s i j l m ∙ cond_cond _ _ _))))

  module _ (n≤8 : n ≤ 8) where
    pub record_agrees : Agree n (record_view (record_of n p)) p
    unfolding record_of
    record_agrees =
        record {
          floor = refl;
          top = refl;
          share = λ s i l. share_place s i (omega arith) ∙ padded_used n (p.share s) i l;
          earned = λ s i l. earned_place s i (omega arith) ∙ padded_used n (p.earned s) i l;
          give = λ s i j l m. give_place s i j (omega arith) (omega arith)
              ∙ padded_used n (λ k. padded n (p.give s k) j) i l ∙ padded_used n (p.give s i) j m;
        }

    pub record_of_answer : 1 ≤ n → record_answer (record_of n p) ≡ pile_answer n p
    unfolding record_of
    record_of_answer 1≤n =
        as_pile (record_of n p) 1≤n n≤8 unused_shares_lem unused_places_lem ∙ answer_cong n (record_view (record_of n p)) p record_agrees
