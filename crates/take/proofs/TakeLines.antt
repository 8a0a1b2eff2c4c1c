-- The lines of the table for a take, each from what leads to it.
-- Assumes nothing.
use Prim.Native.Nat.{ℕ, zero, suc, ◌+◌, ◌≤◌, ◌<◌}
use native.Mathlib.Omega.{arith}
use mathlib.Core.Path.{◌≡◌, refl, ap, sym, ◌∙◌}
use mathlib.Core.Logic.{◌≢◌}
use mathlib.Core.Bool.{true, false}
use mathlib.Core.List.{List}
use lib.Dec.{eqb}
use borrow.Author.Tests.{lt-ltb, le-ltb}
use Rattle.rules.specs.Refusals.{◌when◌, ◌or_else◌, first}
use Rattle.rules.specs.Layout.{desks, piles}
use Rattle.rules.specs.Rows.{compared}
use Rattle.rules.specs.Book.{book_answer}
use Rattle.rules.specs.Take.{row_part, of_copy, same_book, row_answer, take_answer}
use Rattle.rules.proofs.Loops.Refusals.{own_refusal, or_else_stands, or_else_passes}

-- the copy's own refusals
copy_refusal : (m : ℕ) {answer : ℕ} → m ≡ answer → m ≢ 0 → (rest : ℕ) → 20 + m ≡ of_copy answer or_else rest
copy_refusal zero e d rest = absurd (d refl)
copy_refusal (suc m) e d rest = sym (or_else_stands (20 + suc m) rest (λ z. omega arith)) ∙ ap (λ (a : ℕ). of_copy a or_else rest) e

module _ (d : ℕ) (own copy : List ℕ) where
  pub line_own : (m : ℕ) → m ≡ book_answer own → m ≢ 0 → m ≡ take_answer d own copy
  unfolding take_answer
  line_own m e h = own_refusal e h _

  module _ (own_read : book_answer own ≡ 0) where
    pub line_copy : (m : ℕ) → m ≡ book_answer copy → m ≢ 0 → 20 + m ≡ take_answer d own copy
    unfolding take_answer
    line_copy m e h = copy_refusal m e h _ ∙ sym (or_else_passes own_read _)

    module _ (copy_read : book_answer copy ≡ 0) where
      pub line_11 : desks own ≤ d → 11 ≡ take_answer d own copy
      unfolding take_answer ◌when◌ ◌or_else◌
      line_11 l = rw (own_read, copy_read, le-ltb _ _ l)

      module _ (desk : d < desks own) where
        pub line_30 : same_book own copy ≡ false → 30 ≡ take_answer d own copy
        unfolding take_answer ◌when◌ ◌or_else◌
        line_30 e = rw (own_read, copy_read, lt-ltb _ _ desk, e)

        pub line_rows : same_book own copy ≡ true
            → first (piles own) (λ k. first (desks own) (λ i. row_answer (eqb i d) (compared (row_part own k (suc i)) (row_part copy k (suc i))))) ≡ take_answer d own copy
        unfolding take_answer ◌when◌ ◌or_else◌
        line_rows e = rw (own_read, copy_read, lt-ltb _ _ desk, e)
