-- Of two rows one of which is nowhere above the other, a take keeps the other; they are not split.
-- Assumes nothing.
use Prim.Native.Nat.{ℕ, suc, ◌≤◌, ◌<◌}
use native.Mathlib.Nat.{le_antisymm}
use mathlib.Core.Path.{◌≡◌, refl, ap, sym, subst, ◌∙◌}
use mathlib.Core.Logic.{◌⊎◌, ⊎_elim}
use mathlib.Core.Bool.{true, false, cond}
use mathlib.Core.List.{List}
use lib.ListN.{length, get_or}
use lib.Seq.{ext_get_or}
use Rattle.history.proofs.Sets.{cases}
use Rattle.rules.specs.Numbers.{encode}
use Rattle.rules.specs.Pile.{Side, draw, tip, Pile}
use Rattle.rules.specs.Layout.{desk_limit, row_of, body_row, columns}
use Rattle.rules.specs.Rows.{is_copy_later, is_split, numbers_of, places, is_row_length, compared, later_row}
use Rattle.rules.proofs.File.Body.{Fits, by_column, row_column, length_numbers, length_body_row}
use Rattle.rules.proofs.Take.Order.{at_least_at, at_least_all}
use Rattle.rules.proofs.Take.Compared.{mine_above, mine_kept, copy_kept}
use Rattle.rules.proofs.Take.RowBytes.{row, row_places_lem, row_numbers, row_is_row}

-- desk i's tallies in q are nowhere above those in p
pub record RowLe (n : ℕ) (q p : Pile) (i : ℕ) : Type 0 where
  pub earned : (s : Side) → q.earned s i ≤ p.earned s i
  pub give : (s : Side) (j : ℕ) → j < n → q.give s i j ≤ p.give s i j

module _ (n i : ℕ) (1≤n : 1 ≤ n) (n≤8 : n ≤ desk_limit) (i<n : i < n) where
  numbers_le : (p q : Pile) → Fits n p → Fits n q → RowLe n q p i
      → (c : ℕ) → c < columns n → numbers_of (row n q i) c ≤ numbers_of (row n p i) c
  unfolding body_row row_of
  numbers_le p q f g h c l =
      rw (row_numbers n p i f i<n c l, row_numbers n q i g i<n c l)
      (by_column n (λ c. get_or (body_row n q (suc i)) c 0 ≤ get_or (body_row n p (suc i)) c 0) (h.earned draw) (h.earned tip)
      (λ s j m. rw (
        row_column n (p.earned draw i) (p.earned tip i) (λ s. p.give s i) s j m,
        row_column n (q.earned draw i) (q.earned tip i) (λ s. q.give s i) s j m,
      ) (h.give s j m))
      c l)

  module _ (p q : Pile) (f : Fits n p) (g : Fits n q) where
    within : {c : ℕ} → c < places (row n p i) → c < columns n
    within {c} l = subst (λ (w : ℕ). c < w) (row_places_lem n p i) l

    -- a row of a book, and the other book's row of the same length
    is_row : is_row_length (length (row n p i)) ≡ true
    is_row = row_is_row n p i 1≤n n≤8

    as_long : length (row n p i) ≡ length (row n q i)
    as_long = length_body_row n p (suc i) ∙ sym (length_body_row n q (suc i))

    own_kept : RowLe n q p i → let rows = compared (row n p i) (row n q i) in
        (is_split rows ≡ false) × (is_copy_later rows ≡ false) × (later_row (row n p i) (row n q i) ≡ row n p i)
    own_kept h = mine_kept _ _ is_row as_long (at_least_all _ _ _ (λ c l. numbers_le p q f g h c (within l)))

    copy_over : RowLe n p q i → let rows = compared (row n p i) (row n q i) in
        (is_split rows ≡ false)
        × (later_row (row n p i) (row n q i) ≡ cond (mine_above (row n p i) (row n q i)) (row n p i) (row n q i))
    copy_over h = copy_kept _ _ is_row as_long (at_least_all _ _ _ (λ c l. numbers_le q p g f h c (within l)))

    pub no_split : RowLe n q p i ⊎ RowLe n p q i → is_split (compared (row n p i) (row n q i)) ≡ false
    no_split h = ⊎_elim (λ h. (own_kept h).0) (λ h. (copy_over h).0) h

    pub not_later : RowLe n q p i → is_copy_later (compared (row n p i) (row n q i)) ≡ false
    not_later h = (own_kept h).1

    pub merge_own : RowLe n q p i → later_row (row n p i) (row n q i) ≡ row n p i
    merge_own h = (own_kept h).2

    -- where each is nowhere below the other, the two are one
    same_row : RowLe n p q i → mine_above (row n p i) (row n q i) ≡ true → row n p i ≡ row n q i
    same_row h e =
        ap encode
        (ext_get_or 0 (body_row n p (suc i)) (body_row n q (suc i)) (length_numbers n p (suc i) ∙ sym (length_numbers n q (suc i)))
        (λ c l. let l' : c < columns n = subst (λ (w : ℕ). c < w) (length_numbers n p (suc i)) l in
        sym (row_numbers n p i f i<n c l')
        ∙ le_antisymm (numbers_le q p g f h c l') (at_least_at _ _ _ e c (subst (λ (w : ℕ). c < w) (sym (row_places_lem n p i)) l'))
        ∙ row_numbers n q i g i<n c l'))

    pub merge_copy : RowLe n p q i → later_row (row n p i) (row n q i) ≡ row n q i
    merge_copy h =
        (copy_over h).1
        ∙ cases (λ (r : List ℕ). r ≡ row n q i) (mine_above (row n p i) (row n q i)) (same_row h) (λ _. refl)
