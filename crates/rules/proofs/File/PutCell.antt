-- One number put into a cell of a readable book: every other number stands apart from it, so the book is the old one with that number changed.
-- Assumes nothing.
use Prim.Native.Nat.{ℕ, suc, ◌+◌, ◌^◌, ◌≤◌, ◌<◌}
use native.Mathlib.Omega.{arith}
use mathlib.Core.Path.{◌≡◌, ap, sym, ◌∙◌}
use mathlib.Core.Logic.{◌⊎◌, inl, inr, ◌≢◌}
use mathlib.Core.List.{List}
use lib.ListN.{length, get_or}
use lib.Seq.{sets, length-sets}
use Rattle.rules.specs.Numbers.{number, bytes}
use Rattle.rules.specs.Pile.{Pile}
use Rattle.rules.specs.Layout.{Head, head_of, body_at, book_length, cell_at, body_view, desks, piles, pile_number, position, book_bytes, columns, entry_at, position_at, front_length}
use Rattle.rules.proofs.Bytes.Numbers.{Octets, octets_bytes}
use Rattle.rules.proofs.Loops.Sets.{getD_sets_other}
use Rattle.rules.proofs.Bytes.Put.{octets_sets, put_same, put_other}
use Rattle.rules.proofs.Pile.Agree.{Agree}
use Rattle.rules.proofs.File.Front.{head_cong}
use Rattle.rules.proofs.File.Positions.{head_within, entry_within, body_behind, body_within}
use Rattle.rules.proofs.File.Written.{write_book}
use Rattle.rules.proofs.File.Readable.{BookFacts, head_read}
use Rattle.rules.proofs.File.Cells.{cell_fits, bodies_apart, cells_apart}

-- where a cell of pile k stands in a book, and the book with a number put there
abbrev pub spot : List ℕ → ℕ → ℕ → ℕ → ℕ
spot b k r c = body_at (head_of b) k + cell_at (desks b) r c

abbrev pub put_cell : List ℕ → ℕ → ℕ → ℕ → ℕ → List ℕ
put_cell b k r c v = sets b (spot b k r c) (bytes 4 v)

-- the book is readable, the cell is one of its cells, and the number has 4 bytes
pub record Puts (b : List ℕ) (k r c v : ℕ) : Type 0 where
  pub octets : Octets b
  pub book : BookFacts b
  pub pile_in_lem : k < piles b
  pub row_in : r < suc (desks b)
  pub column_in : c < columns (desks b)
  pub fits : v < 256 ^ 4

module _ (b : List ℕ) (k r c v : ℕ) (h : Puts b k r c v) where
  -- it lies behind the contents, and within the book
  spot_behind : front_length (head_of b) ≤ spot b k r c
  spot_behind = omega (arith, body_behind (head_of b) k)

  spot_within : spot b k r c + 4 ≤ length b
  spot_within =
      omega
      (arith, h.book.sized, cell_fits (desks b) r c h.row_in h.column_in, body_within (head_of b) k h.pile_in_lem)

  -- before the bodies nothing changes
  front : (q : ℕ) → q < front_length (head_of b) → get_or (put_cell b k r c v) q 0 ≡ get_or b q 0
  front q l = getD_sets_other b (spot b k r c) (bytes 4 v) q (inl (omega (arith, spot_behind)))

  put_contents : (w q : ℕ) → q + w ≤ front_length (head_of b) → number w (put_cell b k r c v) q ≡ number w b q
  put_contents w q l = put_other 4 w b (spot b k r c) v q (inr (omega (arith, spot_behind)))

  pub put_cell_lem : number 4 (put_cell b k r c v) (spot b k r c) ≡ v
  put_cell_lem = put_same 4 b (spot b k r c) v h.fits spot_within

  pub put_pile : (k' r' c' : ℕ) → r' < suc (desks b) → c' < columns (desks b) → k ≢ k'
      → number 4 (put_cell b k r c v) (spot b k' r' c') ≡ number 4 b (spot b k' r' c')
  put_pile k' r' c' r'<n c'<w d =
      put_other 4 4 b (spot b k r c) v _
      (bodies_apart (head_of b) k k' r r' c c' h.row_in r'<n h.column_in c'<w d)

  pub put_beside : (r' c' : ℕ) → c' < columns (desks b) → (r ≢ r') ⊎ (c ≢ c')
      → number 4 (put_cell b k r c v) (spot b k r' c') ≡ number 4 b (spot b k r' c')
  put_beside r' c' c'<w d =
      put_other 4 4 b (spot b k r c) v _ (cells_apart (desks b) (body_at (head_of b) k) r r' c c' h.column_in c'<w d)

  same_head : head_of (put_cell b k r c v) ≡ head_of b
  same_head = head_cong (put_cell b k r c v) b (λ q l. front q (omega (arith, head_within (head_of b))))

  -- it is what writing its piles gives
  pub put_written : (Q : ℕ → Pile)
      → ((k' : ℕ) → k' < piles b → Agree (desks b) (body_view (desks b) (put_cell b k r c v) (body_at (head_of b) k')) (Q k'))
      → put_cell b k r c v ≡ book_bytes (desks b) (piles b) (pile_number b) Q
  unfolding pile_number position
  put_written Q agree =
      let same = head_read b h.book in
      sym
      (write_book (desks b) (piles b) (pile_number b) Q (put_cell b k r c v)
      (octets_sets b (spot b k r c) (bytes 4 v) h.octets (octets_bytes 4 v))
      (length-sets b (spot b k r c) (bytes 4 v) ∙ h.book.sized ∙ ap book_length same) (same_head ∙ same)
      (λ k' l. put_contents 2 (entry_at k') (omega (arith, entry_within (head_of b) k' l)))
      (λ k' l. put_contents 4 (position_at k') (omega (arith, entry_within (head_of b) k' l)) ∙ h.book.placed k' l ∙ ap (λ (h : Head). body_at h k') same)
      (λ k' l. rw (sym same) (agree k' l)))
