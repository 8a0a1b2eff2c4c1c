-- The opening of a list's record agrees with that of a body where its two runs of numbers do.
-- Assumes nothing.
use Prim.Native.Nat.{ℕ, zero, suc, ◌+◌, ◌*◌, ◌≤◌, ◌<◌}
use native.Mathlib.Nat.{zero-lt-suc}
use native.Mathlib.Omega.{arith}
use mathlib.Core.Path.{◌≡◌, refl, ap, sym, ◌∙◌}
use mathlib.Core.Bool.{Bool, true}
use mathlib.Core.List.{List}
use lib.ListN.{get_or}
use lib.Dec.{lit<, eqb}
use borrow.Author.Tests.{eqb-true, eq-eqb}
use Rattle.rules.specs.Loops.{◌and◌, every}
use Rattle.rules.specs.Numbers.{number}
use Rattle.rules.specs.Pile.{Side, draw, tip, Pile, same_opening}
use Rattle.rules.specs.Layout.{row_length, body_length, cell_at, column, body_view}
use Rattle.rules.specs.Record.{record_cell, record_view, row_places}
use Rattle.rules.proofs.Loops.Logic.{same, and_left, and_right, and_both}
use Rattle.rules.proofs.Loops.Every.{every_at, every_all}
use Rattle.rules.proofs.Pile.Facts.{both_at}
use Rattle.rules.proofs.Pile.Agree.{same_opening_lem}
use Rattle.rules.proofs.File.Body.{column_below, row_within}
use Rattle.padding.specs.Lists.{numbers_record}
use Rattle.padding.proofs.Halves.{front_is, tips_at}
use Rattle.padding.proofs.Cells.{record_cell_lem}

-- the runs: floor, top and draw shares, and the tip shares, so many bytes behind the body's start
abbrev pub first_run : List ℕ → ℕ → List ℕ → ℕ → Bool
first_run b at l k = eqb (get_or l (1 + k) 0) (number 4 b (at + k * 4))

abbrev pub second_run : List ℕ → ℕ → List ℕ → ℕ → ℕ → Bool
second_run b at l behind k = eqb (get_or l (11 + k) 0) (number 4 b (at + behind + k * 4))

pub tips_there : (n : ℕ) → cell_at n 0 (column n tip 0) ≡ 8 + 4 * n
tips_there n = tips_at n refl refl

module _ (l b : List ℕ) (at n : ℕ) (n≤8 : n ≤ 8) where
  abbrev R : Pile
  R = record_view (numbers_record l)

  abbrev B : Pile
  B = body_view n b at

  abbrev first_run_here : ℕ → Bool
  first_run_here = first_run b at l

  abbrev second_run_here : ℕ → Bool
  second_run_here = second_run b at l (8 + 4 * n)

  -- a place of either as a cell of the opening
  of_list : (c : ℕ) → c < row_places → record_cell (numbers_record l) 0 c ≡ get_or l (1 + c) 0
  of_list c c<row = record_cell_lem l 0 c (lit< tt) c<row ∙ ap (λ (k : ℕ). get_or l k 0) (omega arith)

  of_body : (c : ℕ) {place : ℕ} → place ≡ at + c * 4 → number 4 b (at + cell_at n 0 c) ≡ number 4 b place
  unfolding cell_at
  of_body c is = ap (number 4 b) (omega (arith, is))

  share_list : (s : Side) (i : ℕ) → i < n → R.share s i ≡ get_or l (1 + column 8 s i) 0
  share_list s i i<n = of_list (column 8 s i) (column_below 8 s i (omega arith))

  alike : every (2 + n) first_run_here and every n second_run_here ≡ true → same_opening n R B ≡ true
  alike e =
      same_opening_lem n R B
      (of_list 0 (lit< tt) ∙ eqb-true _ _ (every_at (2 + n) first_run_here (and_left _ _ e) 0 (omega arith)) ∙ sym (of_body 0 (omega arith)))
      (of_list 1 (lit< tt) ∙ eqb-true _ _ (every_at (2 + n) first_run_here (and_left _ _ e) 1 (omega arith)) ∙ sym (of_body 1 (omega arith)))
      share
    where
      share : (s : Side) (i : ℕ) → i < n → R.share s i ≡ B.share s i
      share draw i i<n =
          share_list draw i i<n ∙ eqb-true _ _ (every_at (2 + n) first_run_here (and_left _ _ e) (2 + i) (omega arith)) ∙ sym (of_body (2 + i) (omega arith))
      share tip i i<n =
          share_list tip i i<n ∙ ap (λ (k : ℕ). get_or l k 0) (omega arith)
          ∙ eqb-true _ _ (every_at n second_run_here (and_right _ _ e) i i<n) ∙ sym (of_body (2 + (n + i)) (omega arith))

  runs : same_opening n R B ≡ true → every (2 + n) first_run_here and every n second_run_here ≡ true
  unfolding same_opening
  runs e = and_both (every_all (2 + n) first) (every_all n second)
    where
      share : (s : Side) (i : ℕ) → i < n → R.share s i ≡ B.share s i
      share s i i<n = eqb-true _ _ (both_at _ (every_at n _ (and_right _ _ (and_right _ _ e)) i i<n) s)

      first : (k : ℕ) → k < 2 + n → first_run_here k ≡ true
      first zero k< = eq-eqb _ _ (sym (of_list 0 (lit< tt)) ∙ eqb-true _ _ (and_left _ _ e) ∙ of_body 0 (omega arith))
      first (suc zero) k< = eq-eqb _ _ (sym (of_list 1 (lit< tt)) ∙ eqb-true _ _ (and_left _ _ (and_right _ _ e)) ∙ of_body 1 (omega arith))
      first (suc (suc i)) k< = let i<n : i < n = omega arith in
          eq-eqb _ _ (ap (λ (k : ℕ). get_or l k 0) (omega arith) ∙ sym (share_list draw i i<n) ∙ share draw i i<n ∙ of_body (2 + i) {place = at + suc (suc i) * 4} (omega arith))

      second : (i : ℕ) → i < n → second_run_here i ≡ true
      second i i<n =
          eq-eqb _ _ (ap (λ (k : ℕ). get_or l k 0) (omega arith) ∙ sym (share_list tip i i<n) ∙ share tip i i<n ∙ of_body (2 + (n + i)) (omega arith))

  pub same_runs : {columns front tips count : ℕ} → columns ≡ column n tip 0 → front ≡ columns → tips ≡ cell_at n 0 columns → count ≡ n
      → same_opening n R B ≡ every front first_run_here and every count (second_run b at l tips)
  same_runs is all start counted = rw (all ∙ front_is n is, tips_at n is start, counted) (sym (same _ _ alike runs))

-- the opening's row lies within a body
pub opening_within : (n : ℕ) → 8 * (n + 1) ≤ body_length n
unfolding row_length
opening_within n = omega (arith, row_within n 0 (zero-lt-suc n))

pub ruleset opening_row = (opening_within, tips_there)
