-- An accepted take, by the marks that judging leaves: as many are set as it reports, and the marked rows written in place make up the taken book. Positions
-- are numbers that were computed, each with what it is by the head.
-- Assumes nothing.
use Prim.Native.Nat.{ℕ, zero, suc, ◌+◌, ◌*◌, ◌≤◌}
use native.Mathlib.Numerals.{add-one}
use native.Mathlib.Omega.{arith}
use mathlib.Core.Path.{◌≡◌, refl, ap, sym, ◌∙◌}
use mathlib.Core.Bool.{Bool, false}
use mathlib.Core.List.{List}
use lib.ListN.{length, get_or, take}
use lib.Seq.{sets, length-take-le, get_or-take}
use Rattle.std.specs.Prelude.{count_by}
use Rattle.std.proofs.lemmas.List.Sums.{sum_by_more}
use Rattle.rules.specs.Loops.{flat, sum, one_if, count}
use Rattle.rules.specs.Layout.{Head, head_of, row_length, front_length, desks, piles}
use Rattle.rules.specs.Take.{take_answer, after_take, take_report}
use Rattle.rules.proofs.Loops.Counts.{count_cong}
use Rattle.rules.proofs.Loops.Pieces.{flat_cong}
use Rattle.rules.proofs.Take.InPlace.{own_facts, copy_facts, same_desks, same_count, after_take_lem}
use Rattle.rules.proofs.Take.Report.{report}
use Rattle.take.specs.Inner.{RowsInBoth, AllMarked}
use Rattle.take.proofs.InOrder.{rows_most, rows_in_both}
use Rattle.take.proofs.Moved.{moved}

-- the marks among the first so many, as a count over a slice has them
marks_before : (marks : List Bool) (rows : ℕ) → rows ≤ length marks → count_by (λ mark. mark) (take rows marks) ≡ count rows (λ k. get_or marks k false)
unfolding count sum
marks_before marks zero l = refl
marks_before marks (suc rows) l =
    ap (λ (n : ℕ). count_by (λ mark. mark) (take n marks)) (sym (add-one rows))
    ∙ sum_by_more (λ mark. one_if mark) marks rows false (omega arith)
    ∙ ap (λ (n : ℕ). n + one_if (get_or marks rows false)) (marks_before marks rows (omega arith))

module _ (d : ℕ) (own copy : List ℕ) (accepted : take_answer d own copy ≡ 0) where
  abbrev h : Head
  h = head_of own

  abbrev n : ℕ
  n = row_length (desks own)

  module _ {rows : ℕ} (rows_are : rows ≡ piles own * suc (desks own)) where
    pub enough : rows ≤ 288
    enough = rw rows_are (rows_most (own_facts d own copy accepted))

    module _ (marks : List Bool) (long : 288 ≤ length marks) where
      pub marks_long : length (take rows marks) ≡ rows
      marks_long = length-take-le rows marks (omega (arith, enough))

      pub rows_there : {at row : ℕ} → at ≡ front_length h → row ≡ n → RowsInBoth at row (length (take rows marks)) own copy
      rows_there at-is row_is =
          rw (at-is, row_is, marks_long, rows_are) (rows_in_both own copy (own_facts d own copy accepted) (copy_facts d own copy accepted)
          (same_desks d own copy accepted) (same_count d own copy accepted))

      module _ (marked : AllMarked h own copy marks) where
        pub marks_counted : count_by (λ mark. mark) (take rows marks) ≡ take_report d own copy
        marks_counted = marks_before marks rows (omega (arith, enough)) ∙ rw rows_are (count_cong (piles own * suc (desks own)) marked.said ∙ report d own copy accepted)

        pub rows_taken : {at row : ℕ} → at ≡ front_length h → row ≡ n
            → sets own at (flat (length (take rows marks)) (λ k. moved own copy (at + k * row) row (get_or (take rows marks) k false))) ≡ after_take d own copy
        rows_taken at-is row_is =
            let there : ℕ → Bool → List ℕ = λ k mark. moved own copy (front_length h + k * n) n mark in
            rw (at-is, row_is, marks_long) (ap (sets own (front_length h)) (flat_cong rows (λ k l. ap (there k) (get_or-take rows marks k false l)))
            ∙ rw rows_are (ap (sets own (front_length h)) (flat_cong (piles own * suc (desks own)) (λ k l. ap (there k) (marked.said k l))))
            ∙ after_take_lem d own copy accepted)
