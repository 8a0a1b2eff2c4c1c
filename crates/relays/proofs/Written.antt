-- Files of related books that pass the check: a take of one another meets neither 30 nor 31, and what it leaves is the file of the join.
-- Assumes nothing.
use Prim.Native.Nat.{ℕ, suc, ◌<◌, suc-le-suc}
use native.Mathlib.Omega.{arith}
use mathlib.Core.Path.{◌≡◌, refl, ap, ap₂, sym, subst, ◌∙◌}
use mathlib.Core.Logic.{◌⊎◌, inl, inr, ⊎_map}
use mathlib.Core.Bool.{true, not}
use mathlib.Core.List.{List}
use Rattle.rules.specs.Pile.{Side, draw, tip, Pile}
use Rattle.rules.specs.Layout.{columns, column, earned_column, row_of, body_row}
use Rattle.rules.specs.Rows.{row_order, is_split, numbers_of, compared}
use Rattle.rules.specs.Book.{book_answer}
use Rattle.rules.specs.Take.{row_part, of_copy, same_book, take_answer, taken}
use Rattle.rules.proofs.File.Written.{open_head}
use Rattle.rules.proofs.Loops.Pieces.{getD_list}
use Rattle.rules.proofs.Loops.Refusals.{not_met, none_met, first_none}
use Rattle.rules.proofs.Pile.Facts.{facts}
use Rattle.rules.proofs.File.Body.{lawful_fits, view_row, column_below, length_body_row}
use Rattle.rules.proofs.File.LawfulBook.{Frame, Lawful, written_readable}
use Rattle.rules.proofs.Take.Order.{at_least_at}
use Rattle.rules.proofs.Take.RowOrder.{row_order_cong}
use Rattle.rules.proofs.Take.Compared.{compared_rows}
use Rattle.rules.proofs.Take.RowBytes as bytes
use Rattle.rules.proofs.Take.MergeRow.{RowLe}
use Rattle.rules.proofs.Take.Merge.{Merged, same_book_lem, take_accepted, taken_book}
use Rattle.relays.specs.Join.{Book, body_in, row, numbers, cell, pile_in, order, join}
use Rattle.relays.specs.Laws.{Related, PassesCheck}
use Rattle.relays.specs.Files.{file, join_answer}
use Rattle.relays.proofs.Rows.{above, picked}
use Rattle.relays.proofs.Join.{row_of_join, joins}
use Rattle.relays.proofs.Checked.{Checked}

earned_below : (n : ℕ) (s : Side) → earned_column s < columns n
earned_below n draw = omega arith
earned_below n tip = omega arith

module _ (n p : ℕ) where
  -- the piles that a book's file is written from
  abbrev piles_of : Book → ℕ → Pile
  piles_of a k = pile_in n (body_in a k)

  -- a desk's tallies are nowhere above those of a row that is at least its own
  row_le : (a b : Book) (k i : ℕ) → above n (row a k i) (row b k i) → RowLe n (piles_of b k) (piles_of a k) i
  row_le a b k i e =
      record {
        earned = λ s. at_least_at (columns n) _ _ e (earned_column s) (earned_below n s);
        give = λ s j l. at_least_at (columns n) _ _ e (column n s j) (column_below n s j l);
      }

  -- the join is what a take merges: of each desk the row of one of the two, which is nowhere below the other's
  merged : (a b : Book) → Related n p a b → (k : ℕ) → k < p → Merged n (piles_of a k) (piles_of b k) (piles_of (join n p a b) k)
  unfolding body_row
  merged a b ab k l =
      let j = joins n p a b ab in
      let as_written : List ℕ → List ℕ = λ o. row_of n (numbers o 0) (numbers o 1) (λ s i. numbers o (column n s i)) in
      record {
        floor = ap (λ (o : List ℕ). numbers o 0) (ab.opening k l);
        top = ap (λ (o : List ℕ). numbers o 1) (ab.opening k l);
        share = λ s i m. ap (λ (o : List ℕ). numbers o (column n s i)) (ab.opening k l);
        opening = ap as_written (j.opening k l);
        desk = λ i m. ⊎_map
            (λ e. (row_le a b k i (subst (λ (r : List ℕ). above n r (row b k i)) e (j.above_second.rows k i l m)), ap as_written e))
            (λ e. (row_le b a k i (subst (λ (r : List ℕ). above n r (row a k i)) e (j.above_first.rows k i l m)), ap as_written e))
            (⊎_map (λ e. row_of_join n p a b k i l m ∙ e) (λ e. row_of_join n p a b k i l m ∙ e)
            (picked n (λ r. (r ≡ row a k i) ⊎ (r ≡ row b k i)) (inl refl) (inr refl)));
      }

  module _ (pile_numbers : ℕ → ℕ) (frame : Frame n p pile_numbers) where
    abbrev at : Book → List ℕ
    at a = file n p pile_numbers a

    lawful_piles : (a : Book) → PassesCheck n p a → Lawful n p (piles_of a)
    lawful_piles a passes k l = facts n _ (passes k l)

    -- a row's bytes are those of its numbers
    row_number : (a : Book) → PassesCheck n p a → (k i c : ℕ) → k < p → i < n → c < columns n
        → numbers_of (bytes.row n (piles_of a k) i) c ≡ numbers (row a k i) c
    row_number a passes k i c l m v =
        bytes.row_numbers n (piles_of a k) i (lawful_fits n _ (lawful_piles a passes k l)) m c v
        ∙ ap (λ (r : List ℕ). numbers r c) (view_row n (cell (body_in a k)) (suc i))
        ∙ getD_list (columns n) (numbers (row a k i)) 0 c v

    -- so comparing them tells the same
    pub compared_order : (a b : Book) → PassesCheck n p a → PassesCheck n p b → (k i : ℕ) → k < p → i < n
        → compared (row_part (at a) k (suc i)) (row_part (at b) k (suc i)) ≡ order n (row a k i) (row b k i)
    unfolding file
    compared_order a b passes-a passes-b k i l m =
        let x = piles_of a k in
        let y = piles_of b k in
        ap₂ compared (bytes.row_part_lem n p pile_numbers (piles_of a) k (suc i) l (suc-le-suc m)) (bytes.row_part_lem n p pile_numbers (piles_of b) k (suc i) l (suc-le-suc m))
        ∙ compared_rows (bytes.row n x i) (bytes.row n y i) (bytes.row_is_row n x i frame.sizes.desks_least frame.sizes.desks_most)
        (length_body_row n x (suc i) ∙ sym (length_body_row n y (suc i)))
        ∙ ap (λ (w : ℕ). row_order w (numbers_of (bytes.row n x i)) (numbers_of (bytes.row n y i))) (bytes.row_places_lem n x i)
        ∙ row_order_cong (columns n) (λ c v. row_number a passes-a k i c l m v) (λ c v. row_number b passes-b k i c l m v)

    pub file_readable : (a : Book) → PassesCheck n p a → book_answer (at a) ≡ 0
    unfolding file
    file_readable a passes = written_readable n p pile_numbers frame (piles_of a) (lawful_piles a passes)

    module _ (a b : Book) (ab : Checked n p a b) where
      pub same_books : same_book (at a) (at b) ≡ true
      unfolding file
      same_books =
          same_book_lem n p pile_numbers frame (piles_of a) (piles_of b) (piles_of (join n p a b)) (lawful_piles a ab.first) (lawful_piles b ab.second)
          (merged a b ab.related)

      pub taken_join : taken (at a) (at b) ≡ at (join n p a b)
      unfolding file
      taken_join =
          taken_book n p pile_numbers frame (piles_of a) (piles_of b) (piles_of (join n p a b)) (lawful_piles a ab.first) (lawful_piles b ab.second)
          (merged a b ab.related)

      -- where the taker's own row is not behind, the take is accepted
      pub take_done : (d : ℕ) → d < n → ((k : ℕ) → k < p → above n (row a k d) (row b k d)) → take_answer d (at a) (at b) ≡ 0
      unfolding file
      take_done d d<n ahead =
          take_accepted n p pile_numbers frame (piles_of a) (piles_of b) (piles_of (join n p a b)) (lawful_piles a ab.first) (lawful_piles b ab.second)
          (merged a b ab.related) d d<n (λ k l. row_le a b k d (ahead k l))

      pub join_accepted : join_answer (at a) (at b) ≡ 0
      unfolding join_answer file open_head
      join_accepted =
          none_met (file_readable a ab.first)
          (none_met (ap of_copy (file_readable b ab.second))
          (none_met (not_met 30 (ap not same_books))
          (first_none p (λ k l. first_none n (λ i m. not_met 31
          (ap is_split (compared_order a b ab.first ab.second k i l m) ∙ ab.related.no_split k i l m))))))
