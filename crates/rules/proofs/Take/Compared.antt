-- Two rows that stand in bytes: where they have one length of a row they are compared number by number, and elsewhere refused.
-- Assumes nothing.
use Prim.Native.Nat.{ℕ}
use mathlib.Core.Path.{◌≡◌, refl, ◌∙◌}
use mathlib.Core.Bool.{Bool, true, false, cond, not, true≢false}
use mathlib.Core.List.{List}
use lib.ListN.{length}
use borrow.Author.Tests.{eq-eqb, ne_eqb}
use Rattle.rules.specs.Loops.{◌and◌}
use Rattle.rules.specs.Rows.{at_least, both_alike, refused, row_order, is_alike, is_copy_later, is_split, numbers_of, places, is_row_length, compared, handed_on, later_row}
use Rattle.rules.proofs.Loops.Logic.{and_right_fails}
use Rattle.rules.proofs.Take.RowOrder.{order_by, row_order_lem, itself_alike}

-- what stands in the place of my row once the copy's has been taken: the later of two rows that are not split, or the common one
abbrev pub later_of : List ℕ → List ℕ → List ℕ
later_of mine copy = cond (is_copy_later (compared mine copy)) copy mine

module _ (a b : List ℕ) where
  -- is each of them nowhere below the other
  abbrev pub mine_above : Bool
  mine_above = at_least (places a) (numbers_of a) (numbers_of b)

  abbrev pub copy_above : Bool
  copy_above = at_least (places a) (numbers_of b) (numbers_of a)

  pub no_row : is_row_length (length a) ≡ false → refused 3 ≡ compared a b
  unfolding compared ◌and◌
  no_row e = rw e

  pub lengths_differ : (length a ≡ length b → ⊥) → refused 3 ≡ compared a b
  unfolding compared
  lengths_differ h = rw (and_right_fails (is_row_length (length a)) (ne_eqb _ _ h))

  module _ (row : is_row_length (length a) ≡ true) (same : length a ≡ length b) where
    pub compared_rows : compared a b ≡ row_order (places a) (numbers_of a) (numbers_of b)
    unfolding compared ◌and◌
    compared_rows = rw (row, eq-eqb _ _ same)

    pub by_tests : compared a b ≡ order_by mine_above copy_above
    by_tests = compared_rows ∙ row_order_lem _ _ _

    -- what is handed on of rows that are not split
    pub later_row_lem : is_split (compared a b) ≡ false → later_row a b ≡ later_of a b
    later_row_lem = rw by_tests (go mine_above copy_above)
      where
        go : (x y : Bool) → is_split (order_by x y) ≡ false → handed_on (order_by x y) a b ≡ cond (is_copy_later (order_by x y)) b a
        go true true s = refl
        go true false s = refl
        go false true s = refl
        go false false s = absurd (true≢false s)

    -- where one of them is nowhere below the other they are not split, and that one is handed on
    pub mine_kept : mine_above ≡ true → (is_split (compared a b) ≡ false) × (is_copy_later (compared a b) ≡ false) × (later_row a b ≡ a)
    mine_kept e = rw (by_tests, e) (go copy_above)
      where
        go : (y : Bool) → (is_split (order_by true y) ≡ false) × (is_copy_later (order_by true y) ≡ false) × (handed_on (order_by true y) a b ≡ a)
        go true = (refl, refl, refl)
        go false = (refl, refl, refl)

    pub copy_kept : copy_above ≡ true → (is_split (compared a b) ≡ false) × (later_row a b ≡ cond mine_above a b)
    copy_kept e = rw (by_tests, e) (go mine_above)
      where
        go : (x : Bool) → (is_split (order_by x true) ≡ false) × (handed_on (order_by x true) a b ≡ cond x a b)
        go true = (refl, refl)
        go false = (refl, refl)

module _ (a : List ℕ) (row : is_row_length (length a) ≡ true) where
  pub itself : compared a a ≡ both_alike
  itself = compared_rows a a row refl ∙ itself_alike (places a) (numbers_of a)

  -- a row becomes another one exactly where the copy's is later
  pub row_changes : (b : List ℕ) → length a ≡ length b → is_split (compared a b) ≡ false → not (is_alike (compared a (later_row a b))) ≡ is_copy_later (compared a b)
  row_changes b same = go (mine_above a b) (copy_above a b) (by_tests a b row same)
    where
      go : (x y : Bool) → compared a b ≡ order_by x y → is_split (compared a b) ≡ false → not (is_alike (compared a (later_row a b))) ≡ is_copy_later (compared a b)
      go true true e s = rw (e, itself)
      go true false e s = rw (e, itself)
      go false true e s = rw (e, e)
      go false false e s = absurd (true≢false (rw e at s))
