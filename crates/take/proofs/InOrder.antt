-- The rows of two books in file order, openings among them: they lie within both, and comparing them gives the answers of a take.
-- Assumes nothing.
use Prim.Native.Nat.{ℕ, suc, ◌+◌, ◌*◌, ◌≤◌}
use native.Mathlib.Nat.{mul-le-mul}
use native.Mathlib.Omega.{arith}
use mathlib.Core.Path.{◌≡◌, ap, ◌∙◌}
use mathlib.Core.Bool.{true, false}
use mathlib.Core.List.{List}
use lib.Dec.{eqb}
use Rattle.rules.specs.Refusals.{first}
use Rattle.rules.specs.Numbers.{part}
use Rattle.rules.specs.Layout.{Head, head_of, row_length, front_length, body_at, desks, piles}
use Rattle.rules.specs.Rows.{Comparison, compared, is_alike, is_copy_later}
use Rattle.rules.specs.Take.{row_part, row_answer}
use Rattle.rules.proofs.Loops.Refusals.{first_cong}
use Rattle.rules.proofs.File.Readable.{BookFacts}
use Rattle.rules.proofs.Take.InPlace.{alike_not_later, rows_test, row_in_order, rows_end, copy_long}
use Rattle.take.specs.Inner.{RowsInBoth, compared_at, later_at}

-- a book has at most 288 rows
pub rows_most : {b : List ℕ} → BookFacts b → piles b * suc (desks b) ≤ 288
rows_most {b} f =
    let desks_most : suc (desks b) ≤ 9 = omega (arith, f.sizes.desks_most) in
    mul-le-mul f.sizes.piles_most desks_most

-- two readable books of as many desks and piles
module _ (own copy : List ℕ) (f : BookFacts own) (g : BookFacts copy) (same_n : desks own ≡ desks copy) (same_p : piles own ≡ piles copy) where
  abbrev n : ℕ
  n = desks own

  abbrev p : ℕ
  p = piles own

  abbrev h : Head
  h = head_of own

  pub rows_in_both : RowsInBoth (front_length h) (row_length n) (p * suc n) own copy
  unfolding row_length
  rows_in_both =
      let end = rows_end own copy f g same_n same_p in
      record {
        row_most = omega (arith, f.sizes.desks_most);
        count_most = rows_most f;
        within = record { in_own = omega (arith, end); in_copy = omega (arith, end, copy_long own copy f g same_n same_p) };
      }

  -- comparing the rows at one position
  abbrev there : ℕ → Comparison
  there at = compared (part at (row_length n) own) (part at (row_length n) copy)

  -- of openings that are alike the copy's is not later
  pub opening_kept : (k : ℕ) → is_alike (there (body_at h k)) ≡ true → later_at (front_length h) (row_length n) own copy (k * suc n) ≡ false
  opening_kept k alike =
      let at : front_length h + k * suc n * row_length n ≡ body_at h k = omega (arith, row_in_order own copy f g same_n same_p k 0) in
      ap (λ (at : ℕ). is_copy_later (there at)) at ∙ alike_not_later (there (body_at h k)) alike

  pub rows_answer : (d : ℕ) → first p (λ k. first n (λ i. row_answer (eqb i d) (compared_at (front_length h) (row_length n) own copy (k * suc n + suc i))))
      ≡ first p (λ k. first n (λ i. row_answer (eqb i d) (compared (row_part own k (suc i)) (row_part copy k (suc i)))))
  rows_answer d =
      first_cong p (λ k _. first_cong n (λ i _. ap (λ (at : ℕ). row_answer (eqb i d) (there at)) (row_in_order own copy f g same_n same_p k (suc i))))
      ∙ rows_test own copy f g same_n same_p d
