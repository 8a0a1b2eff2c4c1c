-- A desk's row as it stands in a written book, and its numbers by column.
-- Assumes nothing.
use Prim.Native.Nat.{ℕ, suc, ◌+◌, ◌-◌, ◌*◌, ◌≤◌, ◌<◌}
use native.Mathlib.Nat.{add-zero}
use native.Mathlib.Omega.{arith}
use mathlib.Core.Path.{◌≡◌, ap, ◌∙◌}
use mathlib.Core.Bool.{true}
use mathlib.Core.List.{List}
use lib.ListN.{length, get_or}
use lib.Dec.{eqb}
use borrow.Author.Tests.{eq-eqb}
use Rattle.rules.specs.Numbers.{encode, part}
use Rattle.rules.specs.Pile.{draw, tip, Pile}
use Rattle.rules.specs.Layout.{desk_limit, head_for, row_length, body_at, cell_at, row_of, body_row, body_bytes, book_bytes, columns}
use Rattle.rules.specs.Rows.{numbers_of, places, is_row_length}
use Rattle.rules.specs.Take.{row_part}
use Rattle.rules.proofs.Loops.Every.{some_at}
use Rattle.rules.proofs.Loops.Pieces.{part_flat}
use Rattle.rules.proofs.Bytes.Numbers.{number_encode}
use Rattle.rules.proofs.File.Body.{Fits, Fits4, by_column, row_column, length_numbers, row_length_lem, length_body_row, row_within}
use Rattle.rules.proofs.File.Written.{open_head, part_of_body}

module _ (n p : ℕ) (numbers : ℕ → ℕ) (P : ℕ → Pile) where
  pub row_part_lem : (k r : ℕ) → k < p → r < suc n → row_part (book_bytes n p numbers P) k r ≡ encode (body_row n (P k) r)
  unfolding row_part open_head cell_at body_bytes
  row_part_lem k r k<p r<n =
      ap (λ (at : ℕ). part (body_at (head_for n p) k + at) (row_length n) (book_bytes n p numbers P)) (add-zero (r * row_length n))
      ∙ part_of_body n p numbers P k (r * row_length n) (row_length n) k<p
      (omega (arith, row_within n r r<n))
      ∙ part_flat (suc n) (row_length n) (λ r. encode (body_row n (P k) r)) (λ r _. length_body_row n (P k) r) r r<n

-- a row of a book has the length of one
pub is_row_length_lem : (n : ℕ) → 1 ≤ n → n ≤ desk_limit → is_row_length (row_length n) ≡ true
unfolding is_row_length row_length
is_row_length_lem n l m =
    some_at 8 (λ k. eqb (row_length n) (row_length (suc k))) (n - 1) (omega arith) (eq-eqb (8 * (n + 1)) (8 * (suc (n - 1) + 1)) (omega arith))

-- the row of desk i by columns
module _ (n : ℕ) (p : Pile) (i : ℕ) where
  abbrev pub row : List ℕ
  row = encode (body_row n p (suc i))

  pub row_places_lem : places row ≡ columns n
  row_places_lem = omega (arith, length_body_row n p (suc i), row_length_lem n)

  row_fits : Fits n p → i < n → (c : ℕ) → c < columns n → Fits4 (get_or (body_row n p (suc i)) c 0)
  unfolding body_row row_of
  row_fits f l =
      by_column n (λ c. Fits4 (get_or (body_row n p (suc i)) c 0)) (f.earned draw i l) (f.earned tip i l)
      (λ s j m. rw (row_column n (p.earned draw i) (p.earned tip i) (λ s. p.give s i) s j m) (f.give s i j l m))

  pub row_numbers : Fits n p → i < n → (c : ℕ) → c < columns n → numbers_of row c ≡ get_or (body_row n p (suc i)) c 0
  row_numbers f l c m = number_encode (body_row n p (suc i)) c (omega (arith, length_numbers n p (suc i))) (row_fits f l c m)

  pub row_is_row : 1 ≤ n → n ≤ desk_limit → is_row_length (length row) ≡ true
  row_is_row l m = ap is_row_length (length_body_row n p (suc i)) ∙ is_row_length_lem n l m
