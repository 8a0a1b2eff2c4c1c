-- The rows of a body, each read in two runs into 18 places of a list of zeros, make up the numbers of its record.
-- Assumes nothing.
use Prim.Native.Nat.{ℕ, zero, suc, ◌+◌, ◌*◌, ◌/◌, ◌%◌, ◌≤◌, ◌<◌}
use native.Mathlib.Nat.{not-suc-le-zero, mod-lt, div-add-mod', div-lt_iff_lt-mul}
use native.Mathlib.Decide.{dec_lt}
use native.Mathlib.Omega.{arith}
use mathlib.Core.Path.{◌≡◌, refl, ap, sym, subst, subst⁻¹, ◌∙◌}
use mathlib.Core.Logic.{◌⊎◌, inl, inr, by_cases}
use mathlib.Core.List.{List}
use lib.ListN.{length, get_or, replicate, length-replicate, get_or-replicate}
use lib.Dec.{lit<}
use lib.Seq.{sets, length-sets, ext_get_or}
use borrow.Author.Count.{below_more}
use Rattle.rules.specs.Loops.{list}
use Rattle.rules.specs.Numbers.{number}
use Rattle.rules.specs.Pile.{Side, draw, tip, Pile}
use Rattle.rules.specs.Layout.{desk_limit, row_length, cell_at, earned_column, column, view}
use Rattle.rules.specs.Record.{Record, padded, record_of, record_cell, row_places, tips_place}
use Rattle.rules.proofs.Loops.Pieces.{length_list, getD_list}
use Rattle.rules.proofs.Loops.Sets.{getD_sets_in, getD_sets_other}
use Rattle.rules.proofs.File.Body.{by_column}
use Rattle.rules.proofs.Record.RecordOf.{padded_used, padded_unused, length_shares, length_tallies, share_place, earned_place, give_place}
use Rattle.padding.specs.Lists.{body_numbers}
use Rattle.padding.proofs.Halves.{front_is, tips_at}
use Rattle.padding.proofs.RecordLists.{length_numbers, cell_of}

-- what stands in a list after a run of m numbers was read into it
run_in : (l : List ℕ) (at m : ℕ) (f : ℕ → ℕ) (j : ℕ) → at + m ≤ length l → j < m → get_or (sets l at (list m f)) (at + j) 0 ≡ f j
run_in l at m f j fits j<m =
    getD_sets_in l at (list m f) j (omega (arith, length_list m f)) (omega (arith, length_list m f)) ∙ getD_list m f 0 j j<m

pub run_out : (l : List ℕ) (at m : ℕ) (f : ℕ → ℕ) (k : ℕ) → (k < at) ⊎ (at + m ≤ k) → get_or (sets l at (list m f)) k 0 ≡ get_or l k 0
run_out l at m f k apart =
    getD_sets_other l at (list m f) k (subst⁻¹ (λ (x : ℕ). (k < at) ⊎ (at + x ≤ k)) (length_list m f) apart)

-- the last n numbers of a run among zeros, as 8 places
pub run_padded : (l : List ℕ) (at d n : ℕ) {m : ℕ} (f v : ℕ → ℕ) → m ≡ d + n → at + m ≤ length l → ((k : ℕ) → at + m ≤ k → k < at + (d + 8) → get_or l k 0 ≡ 0)
    → ((j : ℕ) → f (d + j) ≡ v j) → (j : ℕ) → j < 8 → get_or (sets l at (list m f)) (at + (d + j)) 0 ≡ padded n v j
run_padded l at d n {m} f v size fits zeros is j j<8 =
    by_cases (dec_lt j n) (λ j<n. run_in l at m f (d + j) fits (omega arith) ∙ is j ∙ sym (padded_used n v j j<n))
    (λ j≥n. run_out l at m f (at + (d + j)) (inr (omega arith)) ∙ zeros (at + (d + j)) (omega arith) (omega arith) ∙ sym (padded_unused n v j (omega arith)))

module _ (n : ℕ) (cell : ℕ → ℕ → ℕ) where
  abbrev pile : Pile
  pile = view n cell

  abbrev wide : Record
  wide = record_of n pile

  -- the first rows are in the list, and the rest of it is 0
  pub record Rows (m : ℕ) (l : List ℕ) : Type 0 where
    pub long : length l ≡ suc desk_limit * row_places
    pub cells : (r c : ℕ) → r < m → c < row_places → get_or l (r * row_places + c) 0 ≡ record_cell wide r c
    pub rest : (k : ℕ) → m * row_places ≤ k → k < suc desk_limit * row_places → get_or l k 0 ≡ 0

  pub no_rows : {l : List ℕ} → l ≡ replicate (suc desk_limit * row_places) 0 → Rows 0 l
  no_rows zeros =
      record {
        long = ap length zeros ∙ length-replicate {A = ℕ} (suc desk_limit * row_places) 0;
        cells = λ r c l. absurd (not-suc-le-zero l);
        rest = λ k _ l. ap (λ (l : List ℕ). get_or l k 0) zeros ∙ get_or-replicate (suc desk_limit * row_places) k 0 0 l;
      }

  module _ (n≤8 : n ≤ desk_limit) where
    -- a row of the record is the body's with its halves padded, or, past n, 0
    first_cells : (s : Side) (r : ℕ) → r ≤ n → record_cell wide r (earned_column s) ≡ cell r (earned_column s)
    unfolding record_of
    first_cells draw zero l = refl
    first_cells tip zero l = refl
    first_cells s (suc i) l = earned_place n pile s i (omega arith) ∙ padded_used n (pile.earned s) i l

    half_cells : (s : Side) (r j : ℕ) → r ≤ n → j < 8 → record_cell wide r (column 8 s j) ≡ padded n (λ j. cell r (column n s j)) j
    half_cells s zero j l j<8 = share_place n pile s j j<8
    half_cells s (suc i) j l j<8 = give_place n pile s i j (omega arith) j<8 ∙ padded_used n (λ k. padded n (pile.give s k) j) i l

    past_cells : (r c : ℕ) → n < r → r < suc desk_limit → c < row_places → record_cell wide r c ≡ 0
    past_cells zero c n<r r<9 c<18 = absurd (not-suc-le-zero n<r)
    past_cells (suc i) c n<r r<9 c<18 =
        by_column 8 (λ c. record_cell wide (suc i) c ≡ 0) (earned draw) (earned tip)
        (λ s j j<8. give_place n pile s i j (omega arith) j<8 ∙ padded_unused n (λ k. padded n (pile.give s k) j) i (omega arith)) c c<18
      where
        earned : (s : Side) → record_cell wide (suc i) (earned_column s) ≡ 0
        earned s = earned_place n pile s i (omega arith) ∙ padded_unused n (pile.earned s) i (omega arith)

    -- the next row: a run of its first numbers and its draw half, and one of its tip half
    next_row : {l : List ℕ} (r : ℕ) (f g : ℕ → ℕ) → r ≤ n → Rows r l → ((c : ℕ) → f c ≡ cell r c) → ((j : ℕ) → g j ≡ cell r (column n tip j))
        → Rows (r + 1) (sets (sets l (r * row_places) (list (2 + n) f)) (r * row_places + tips_place) (list n g))
    next_row {l} r f g r≤n rows firsts tips =
        record {
          long = length-sets half (r * row_places + tips_place) (list n g) ∙ half_long;
          cells = λ k c k≤r c<18. below_more (λ k. get_or all (k * row_places + c) 0 ≡ record_cell wide k c) r
              (λ k k<r. before k c k<r c<18 ∙ rows.cells k c k<r c<18) (own c c<18) k k≤r;
          rest = λ k m k<. run_out half (r * row_places + tips_place) n g k (inr (omega arith)) ∙ zeros k (omega arith) k<;
        }
      where
        half : List ℕ
        half = sets l (r * row_places) (list (2 + n) f)

        all : List ℕ
        all = sets half (r * row_places + tips_place) (list n g)

        half_long : length half ≡ suc desk_limit * row_places
        half_long = length-sets l (r * row_places) (list (2 + n) f) ∙ rows.long

        -- the rows before are as they were, and what stands behind the first run is 0
        before : (k c : ℕ) → k < r → c < row_places → get_or all (k * row_places + c) 0 ≡ get_or l (k * row_places + c) 0
        before k c k<r c<18 =
            run_out half (r * row_places + tips_place) n g (k * row_places + c) (inl (omega arith)) ∙ run_out l (r * row_places) (2 + n) f (k * row_places + c) (inl (omega arith))

        zeros : (k : ℕ) → r * row_places + (2 + n) ≤ k → k < suc desk_limit * row_places → get_or half k 0 ≡ 0
        zeros k m k< = run_out l (r * row_places) (2 + n) f k (inr m) ∙ rows.rest k (omega arith) k<

        -- up to the tip half the row is as the first run left it
        early : (c : ℕ) → c < tips_place → get_or all (r * row_places + c) 0 ≡ get_or half (r * row_places + c) 0
        early c c<10 = run_out half (r * row_places + tips_place) n g (r * row_places + c) (inl (omega arith))

        first : (c : ℕ) → c < 2 → get_or all (r * row_places + c) 0 ≡ cell r c
        first c c<2 = early c (omega arith) ∙ run_in l (r * row_places) (2 + n) f c (omega (arith, rows.long)) (omega arith) ∙ firsts c

        half_row : (s : Side) (j : ℕ) → j < 8 → get_or all (r * row_places + column 8 s j) 0 ≡ padded n (λ j. cell r (column n s j)) j
        half_row draw j j<8 =
            early (2 + j) (omega arith)
            ∙ run_padded l (r * row_places) 2 n f (λ j. cell r (2 + j)) refl (omega (arith, rows.long)) (λ k m k<. rows.rest k (omega arith) (omega arith))
            (λ j. firsts (2 + j)) j j<8
        half_row tip j j<8 =
            ap (λ (k : ℕ). get_or all k 0) (omega arith)
            ∙ run_padded half (r * row_places + tips_place) 0 n g (λ j. cell r (column n tip j)) (omega arith) (omega (arith, half_long))
            (λ k m k<. zeros k (omega arith) (omega arith)) (λ j. ap g (omega arith) ∙ tips j) j j<8

        own : (c : ℕ) → c < row_places → get_or all (r * row_places + c) 0 ≡ record_cell wide r c
        own =
            by_column 8 (λ c. get_or all (r * row_places + c) 0 ≡ record_cell wide r c) (first 0 (lit< tt) ∙ sym (first_cells draw r r≤n))
            (first 1 (lit< tt) ∙ sym (first_cells tip r r≤n)) (λ s j j<8. half_row s j j<8 ∙ sym (half_cells s r j r≤n j<8))

    pub all_rows : {m : ℕ} {l : List ℕ} → Rows m l → n < m → l ≡ body_numbers wide
    all_rows {m} {l} rows n<m =
        ext_get_or 0 l (body_numbers wide) (rows.long ∙ sym (length_numbers wide (length_shares n pile) (length_tallies n pile))) (λ k k<l.
        subst (λ (q : ℕ). get_or l q 0 ≡ get_or (body_numbers wide) q 0) (div-add-mod' k row_places)
        (place (k / row_places) (k % row_places) ((div-lt_iff_lt-mul (lit< tt)).1 (omega (arith, rows.long))) (mod-lt k (lit< tt))))
      where
        place : (r c : ℕ) → r < suc desk_limit → c < row_places → get_or l (r * row_places + c) 0 ≡ get_or (body_numbers wide) (r * row_places + c) 0
        place r c r<9 c<18 =
            by_cases (dec_lt r m) (λ r<m. rows.cells r c r<m c<18)
            (λ r≥m. rows.rest (r * row_places + c) (omega arith) (omega arith) ∙ sym (past_cells r c (omega arith) r<9 c<18))
            ∙ sym (cell_of wide (length_shares n pile) r c c<18)

-- row r of the body at a position, read in its two runs
pub next_padded : (n at : ℕ) (b : List ℕ) {r row front from tips m desks : ℕ} {before between after : List ℕ} → n ≤ desk_limit
    → Rows n (λ row column. number 4 b (at + cell_at n row column)) r before → r ≤ n → front ≡ column n tip 0 → tips ≡ cell_at n 0 front
    → from ≡ at + r * (8 * (n + 1)) → row ≡ r → m ≡ front → desks ≡ n → between ≡ sets before (row * row_places) (list m (λ k. number 4 b (from + k * 4)))
    → after ≡ sets between (row * row_places + tips_place) (list desks (λ k. number 4 b (from + tips + k * 4)))
    → Rows n (λ row column. number 4 b (at + cell_at n row column)) (r + 1) after
unfolding cell_at row_length
next_padded n at b {r} n≤8 rows r≤n is behind here same size all first second =
    rw (second, first, same, size ∙ front_is n is, all)
    (next_row n _ n≤8 r _ _ r≤n rows (λ c. ap (number 4 b) (omega (arith, here))) (λ j. ap (number 4 b) (omega (arith, here, tips_at n is behind))))
