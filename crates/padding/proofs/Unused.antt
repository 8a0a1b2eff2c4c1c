-- Unused shares and places of a list's record: what the tests on ranges of the list tell of them.
-- Assumes nothing.
use Prim.Native.Nat.{ℕ, suc, ◌+◌, ◌-◌, ◌*◌, ◌/◌, ◌%◌, ◌≤◌, ◌<◌}
use native.Mathlib.Nat.{mod-lt, div-add-mod', div-lt_iff_lt-mul}
use native.Mathlib.Decide.{dec_lt}
use native.Mathlib.Omega.{arith}
use mathlib.Core.Path.{◌≡◌, ap, ap₂, sym, ◌∙◌}
use mathlib.Core.Logic.{◌≢◌, ◌⊎◌, inl, inr, ⊎_elim, by_cases}
use mathlib.Core.Bool.{Bool, true}
use mathlib.Core.List.{List}
use lib.ListN.{length, get_or}
use lib.Dec.{lit<, eqb}
use borrow.Author.Tests.{eqb-true, eq-eqb, lt-ltb}
use Rattle.rules.specs.Loops.{◌and◌, every}
use Rattle.rules.specs.Pile.{Side, draw, tip, Pile}
use Rattle.rules.specs.Layout.{column, earned_column}
use Rattle.rules.specs.Record.{Record, record_cell, record_view, unused_shares, unused_places, row_places, tips_place}
use Rattle.rules.proofs.Loops.Logic.{same, and_left, and_right, and_both, or_first, or_second}
use Rattle.rules.proofs.Loops.Every.{every_at, every_all, every_cong}
use Rattle.rules.proofs.Pile.Facts.{both_all}
use Rattle.rules.proofs.File.Body.{by_column, column_below}
use Rattle.rules.proofs.Record.Unused.{unused_share, unused_earned, unused_give}
use Rattle.rules.specs.Numbers.{part}
use Rattle.rules.proofs.Loops.Parts.{length_part, get_d_part}
use Rattle.std.proofs.Common.{Bor, Some}
use Rattle.std.specs.Prelude.{Option, MatchOption}
use Rattle.std.specs.Array.{IsWholeChunk}
use Rattle.padding.specs.Lists.{tallies_at, numbers_record}
use Rattle.padding.proofs.Cells.{record_cell_lem}

-- where a row's gives or shares of a side start
abbrev half_at : Side → ℕ
half_at draw = 2
half_at tip = tips_place

-- a row that starts at a place is 0 past n, on a side and on both
abbrev side_padding : List ℕ → ℕ → ℕ → Side → Bool
side_padding l n at s = every (8 - n) (λ k. eqb (get_or l (at + half_at s + n + k) 0) 0)

abbrev pub row_padding : List ℕ → ℕ → ℕ → Bool
row_padding l n at = side_padding l n at draw and side_padding l n at tip

-- where the row of desk i starts
abbrev pub row_at : ℕ → ℕ
row_at i = tallies_at + i * row_places

-- the rows from desk n on, as one range
abbrev pub rows_past : List ℕ → ℕ → Bool
rows_past l n = every ((8 - n) * row_places) (λ k. eqb (get_or l (row_at n + k) 0) 0)

-- the same tests of a part of the list, which was taken out as a list of its own
module _ (l : List ℕ) (at size : ℕ) {b : Bool} where
  pub part_zero : {m : ℕ} → b ≡ every (length (part at size l)) (λ k. eqb (get_or (part at size l) k 0) 0) → size ≡ m → at + m ≤ length l
      → b ≡ every m (λ k. eqb (get_or l (at + k) 0) 0)
  part_zero {m} tested is fits =
      tested ∙ rw (is, length_part at m l fits) (every_cong m (λ k k<m. ap (λ (x : ℕ). eqb x 0) (get_d_part at m l k k<m)))

  pub part_padding : (n : ℕ) → b ≡ row_padding (part at size l) n 0 → size ≡ row_places → b ≡ row_padding l n at
  part_padding n tested is = tested ∙ rw is (ap₂ ◌and◌ (side draw) (side tip))
    where
      cell : (k place : ℕ) → k < row_places → at + k ≡ place → eqb (get_or (part at row_places l) k 0) 0 ≡ eqb (get_or l place 0) 0
      cell k place k<row e = ap (λ (x : ℕ). eqb x 0) (get_d_part at row_places l k k<row ∙ ap (λ (q : ℕ). get_or l q 0) e)

      side : (s : Side) → side_padding (part at row_places l) n 0 s ≡ side_padding l n at s
      side draw = every_cong (8 - n) (λ k m. cell _ _ (omega arith) (omega arith))
      side tip = every_cong (8 - n) (λ k m. cell _ _ (omega arith) (omega arith))

-- a list taken as an array has the same numbers
pub same_numbers : (l : List ℕ) (m : ℕ) {taken : Option (Bor (List ℕ))} {array : Bor (List ℕ)} → MatchOption taken (length l ≢ m) (λ y. IsWholeChunk l y.now m)
    → taken ≡ Some array → array.now ≡ l
same_numbers l m cases is = (rw is at cases).same

module _ (l : List ℕ) (n : ℕ) (n≤8 : n ≤ 8) where
  abbrev R : Record
  R = numbers_record l

  abbrev P : Pile
  P = record_view R

  -- row r, which starts at a place
  module _ (r at : ℕ) (r<9 : r < 9) (starts : at ≡ 1 + r * row_places) where
    past_n : (s : Side) (k : ℕ) → k < 8 - n → get_or l (at + half_at s + n + k) 0 ≡ record_cell R r (column 8 s (n + k))
    past_n draw k m = ap (λ (q : ℕ). get_or l q 0) (omega arith) ∙ sym (record_cell_lem l r (column 8 draw (n + k)) r<9 (omega arith))
    past_n tip k m = ap (λ (q : ℕ). get_or l q 0) (omega arith) ∙ sym (record_cell_lem l r (column 8 tip (n + k)) r<9 (omega arith))

    padding_at : row_padding l n at ≡ true → (s : Side) (j : ℕ) → n ≤ j → j < 8 → record_cell R r (column 8 s j) ≡ 0
    padding_at e s j n≤j j<8 =
        let is : j ≡ n + (j - n) = omega arith in
        ap (λ (q : ℕ). record_cell R r (column 8 s q)) is ∙ sym (past_n s (j - n) (omega arith))
        ∙ eqb-true _ _ (every_at (8 - n) _ (side s) (j - n) (omega arith))
      where
        side : (s : Side) → side_padding l n at s ≡ true
        side draw = and_left _ _ e
        side tip = and_right _ _ e

    padding_all : ((s : Side) (j : ℕ) → n ≤ j → j < 8 → record_cell R r (column 8 s j) ≡ 0) → row_padding l n at ≡ true
    padding_all h = and_both (side draw) (side tip)
      where
        side : (s : Side) → side_padding l n at s ≡ true
        side s = every_all (8 - n) (λ k m. eq-eqb _ _ (past_n s k m ∙ h s (n + k) (omega arith) (omega arith)))

  -- shares
  shares_all : ((s : Side) (j : ℕ) → n ≤ j → j < 8 → P.share s j ≡ 0) → unused_shares n P ≡ true
  unfolding unused_shares
  shares_all h =
      every_all 8 (λ j j<8. by_cases (dec_lt j n) (λ m. or_first (lt-ltb j n m) _)
      (λ m. or_second _ (both_all (λ s. eq-eqb _ _ (h s j (omega arith) j<8)))))

  pub unused_shares_lem : row_padding l n 1 ≡ unused_shares n P
  unused_shares_lem =
      same _ _ (λ e. shares_all (padding_at 0 1 (lit< tt) (omega arith) e)) (λ e. padding_all 0 1 (lit< tt) (omega arith) (unused_share n P e))

  -- places: the tallies of desks past n, and the gives of such desks and to them
  places_all : ((s : Side) (i : ℕ) → n ≤ i → i < 8 → P.earned s i ≡ 0)
      → ((s : Side) (i j : ℕ) → i < 8 → j < 8 → (n ≤ i) ⊎ (n ≤ j) → P.give s i j ≡ 0) → unused_places n P ≡ true
  unfolding unused_places
  places_all h g =
      every_all 8 (λ i i<8. and_both
      (by_cases (dec_lt i n) (λ m. or_first (lt-ltb i n m) _) (λ m. or_second _ (both_all (λ s. eq-eqb _ _ (h s i (omega arith) i<8)))))
      (every_all 8 (λ j j<8. by_cases (dec_lt i n)
      (λ m. by_cases (dec_lt j n) (λ o. or_first (and_both (lt-ltb i n m) (lt-ltb j n o)) _)
      (λ o. or_second _ (both_all (λ s. eq-eqb _ _ (g s i j i<8 j<8 (inr (omega arith)))))))
      (λ m. or_second _ (both_all (λ s. eq-eqb _ _ (g s i j i<8 j<8 (inl (omega arith)))))))))

  -- a place of the rows past n is that of a row and a column
  past_at : rows_past l n ≡ true → (i c : ℕ) → n ≤ i → i < 8 → c < row_places → record_cell R (suc i) c ≡ 0
  past_at e i c n≤i i<8 c<row =
      let at : 1 + suc i * row_places + c ≡ row_at n + ((i - n) * row_places + c) = omega arith in
      record_cell_lem l (suc i) c (omega arith) c<row ∙ ap (λ (q : ℕ). get_or l q 0) at
      ∙ eqb-true _ _ (every_at ((8 - n) * row_places) _ e ((i - n) * row_places + c) (omega arith))

  past_all : ((i c : ℕ) → n ≤ i → i < 8 → c < row_places → record_cell R (suc i) c ≡ 0) → rows_past l n ≡ true
  past_all h =
      every_all ((8 - n) * row_places) (λ k m.
      let row : k / row_places < 8 - n = (div-lt_iff_lt-mul (lit< tt)).1 m in
      let c<row : k % row_places < row_places = mod-lt k (lit< tt) in
      let at : row_at n + k ≡ 1 + suc (n + k / row_places) * row_places + k % row_places = omega (arith, div-add-mod' k row_places) in
      eq-eqb _ _ (ap (λ (q : ℕ). get_or l q 0) at ∙ sym (record_cell_lem l (suc (n + k / row_places)) (k % row_places) (omega arith) c<row)
      ∙ h (n + k / row_places) (k % row_places) (omega arith) (omega arith) c<row))

  pub unused_places_lem : every n (λ i. row_padding l n (row_at i)) and rows_past l n ≡ unused_places n P
  unused_places_lem = same _ _ forth back
    where
      earned_small : (s : Side) → earned_column s < row_places
      earned_small draw = lit< tt
      earned_small tip = lit< tt

      forth : every n (λ i. row_padding l n (row_at i)) and rows_past l n ≡ true → unused_places n P ≡ true
      forth e =
          let past = past_at (and_right _ _ e) in
          places_all (λ s i n≤i i<8. past i (earned_column s) n≤i i<8 (earned_small s))
          (λ s i j i<8 j<8 h. by_cases (dec_lt i n)
          (λ m. padding_at (suc i) (row_at i) (omega arith) (omega arith) (every_at n _ (and_left _ _ e) i m) s j (⊎_elim (λ o. absurd (omega arith)) (λ o. o) h) j<8)
          (λ m. past i (column 8 s j) (omega arith) i<8 (column_below 8 s j j<8)))

      back : unused_places n P ≡ true → every n (λ i. row_padding l n (row_at i)) and rows_past l n ≡ true
      back e =
          let earned = unused_earned n P e in
          let give = unused_give n P e in
          and_both
          (every_all n (λ i m. padding_all (suc i) (row_at i) (omega arith) (omega arith) (λ s j n≤j j<8. give s i j (omega arith) j<8 (inr n≤j))))
          (past_all (λ i c n≤i i<8. by_column 8 (λ c. record_cell R (suc i) c ≡ 0) (earned draw i n≤i i<8) (earned tip i n≤i i<8)
          (λ s j j<8. give s i j i<8 j<8 (inl n≤i)) c))
