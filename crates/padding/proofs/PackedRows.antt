-- What writing the two runs of a list's row leaves; and the rows of a list's record, as those of a body.
-- Assumes nothing.
use Prim.Native.Nat.{ℕ, zero, suc, ◌+◌, ◌*◌, ◌≤◌, ◌<◌}
use native.Mathlib.Omega.{arith}
use mathlib.Core.Path.{◌≡◌, refl, ap, ap₂, sym, ◌∙◌}
use mathlib.Core.List.{List, ◌∷◌, ◌++◌}
use lib.ListN.{length, get_or, length-append}
use lib.Seq.{sets}
use Rattle.rules.specs.Loops.{flat, list}
use Rattle.rules.specs.Numbers.{encode}
use Rattle.rules.specs.Pile.{tip}
use Rattle.rules.specs.Layout.{row_of, cell_at, column, body_row, body_bytes}
use Rattle.rules.specs.Record.{record_cell, record_view, row_places, tips_place}
use Rattle.rules.proofs.Loops.Pieces.{flat_cong, length_list, list_add, list_cong}
use Rattle.rules.proofs.Loops.Sets.{sets_then}
use Rattle.rules.proofs.Loops.Writing.{Written, next_written}
use Rattle.rules.proofs.Bytes.Numbers.{encode_append, length_encode}
use Rattle.padding.specs.Lists.{numbers_record}
use Rattle.padding.specs.Inner.{packed_row}
use Rattle.padding.proofs.Halves.{front_is, tips_at}
use Rattle.padding.proofs.Cells.{record_cell_lem}

length_packed_row : (n : ℕ) (l : List ℕ) (r : ℕ) → length (encode (packed_row n l r)) ≡ 8 * (n + 1)
length_packed_row n l r = length_encode (packed_row n l r) ∙ simp (length-append, length_list) (omega arith)

-- two runs, one behind the other
pack_runs : (before : List ℕ) (to n : ℕ) (f g : ℕ → ℕ) {m tips : ℕ} {between after : List ℕ} → m ≡ 2 + n → tips ≡ 8 + 4 * n
    → between ≡ sets before to (encode (list m f)) → after ≡ sets between (to + tips) (encode (list n g)) → after ≡ sets before to (encode (list (2 + n) f ++ list n g))
pack_runs before to n f g {m} size place first second =
    rw (second, first ∙ ap (λ (k : ℕ). sets before to (encode (list k f))) size, encode_append (list (2 + n) f) (list n g))
    (sets_then before to (encode (list (2 + n) f)) _ (encode (list n g)) (omega (arith, place, length_encode (list (2 + n) f), length_list (2 + n) f)))

-- row r, which is written behind those before it
pub next_packed : (n : ℕ) (l : List ℕ) {r row at front to tips m desks : ℕ} {b before between after : List ℕ}
    → Written b at (suc n) (λ j. encode (packed_row n l j)) r before → r < suc n → front ≡ column n tip 0 → tips ≡ cell_at n 0 front
    → to ≡ at + r * (8 * (n + 1)) → row ≡ r → m ≡ front → desks ≡ n
    → between ≡ sets before to (encode (list m (λ k. get_or l (1 + row * row_places + k) 0)))
    → after ≡ sets between (to + tips) (encode (list desks (λ k. get_or l (1 + row * row_places + tips_place + k) 0)))
    → Written b at (suc n) (λ j. encode (packed_row n l j)) (r + 1) after
next_packed n l {r} {to = to} {before = before} written r≤n is behind here same size all first second =
    next_written (8 * (n + 1)) (λ j _. length_packed_row n l j) written r≤n here
    (pack_runs before to n _ _ (size ∙ front_is n is) (tips_at n is behind) (rw same at first) (rw (same, all) at second))

-- the rows of n desks are the body's
module _ (n : ℕ) (n≤8 : n ≤ 8) (l : List ℕ) where
  row_packed : (r : ℕ) → r < suc n → packed_row n l r ≡ body_row n (record_view (numbers_record l)) r
  unfolding list flat body_row row_of
  row_packed r r≤n =
      ap₂ ◌++◌
      (list_cong (2 + n) (λ k k<. sym (record_cell_lem l r k (omega arith) (omega arith))) ∙ list_add 2 n (record_cell (numbers_record l) r))
      (list_cong n (λ k k<. ap (λ (q : ℕ). get_or l q 0) (omega arith) ∙ sym (record_cell_lem l r (2 + (8 + k)) (omega arith) (omega arith))))
      ∙ by_row r
    where
      cell : ℕ → ℕ → ℕ
      cell = record_cell (numbers_record l)

      by_row : (r : ℕ) → (cell r 0 ∷ cell r 1 ∷ list n (λ k. cell r (2 + k))) ++ list n (λ k. cell r (2 + (8 + k))) ≡ body_row n (record_view (numbers_record l)) r
      by_row zero = refl
      by_row (suc i) = refl

  pub body_packed : flat (suc n) (λ r. encode (packed_row n l r)) ≡ body_bytes n (record_view (numbers_record l))
  unfolding body_bytes
  body_packed = flat_cong (suc n) (λ r r≤n. ap encode (row_packed r r≤n))
