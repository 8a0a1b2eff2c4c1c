-- A take of written books of one opening with comparable rows is accepted, and leaves the book written from the later rows.
-- Assumes nothing.
use Prim.Native.Nat.{ℕ, zero, suc, ◌<◌, suc-le-suc}
use native.Mathlib.Nat.{le_of_suc-le-suc}
use mathlib.Core.Path.{◌≡◌, refl, ap, ap₂, sym, ◌∙◌}
use mathlib.Core.Logic.{◌⊎◌, ⊎_elim, ⊎_map}
use mathlib.Core.Bool.{true, false, not}
use mathlib.Core.List.{List, ◌++◌}
use lib.Dec.{eqb}
use borrow.Author.Tests.{eq-eqb, lt-ltb, eqb-true}
use Rattle.rules.specs.Loops.{◌and◌}
use Rattle.rules.specs.Numbers.{encode}
use Rattle.rules.specs.Pile.{Side, Pile, same_opening}
use Rattle.rules.specs.Layout.{pile_of, body_row, body_bytes, book_bytes}
use Rattle.rules.specs.Rows.{is_copy_later, compared, later_row}
use Rattle.rules.specs.Take.{row_part, of_copy, same_book, row_answer, take_answer, taken_row, taken, after_take}
use Rattle.rules.proofs.Loops.Logic.{decided, and_both, and_left_fails, and_right_fails}
use Rattle.rules.proofs.Loops.Every.{every_all}
use Rattle.rules.proofs.Loops.Refusals.{not_met, none_met, first_none, when_accepted}
use Rattle.rules.proofs.Loops.Pieces.{flat_cong}
use Rattle.rules.proofs.Pile.Agree.{same_opening_lem}
use Rattle.rules.proofs.File.Body.{Fits, lawful_fits}
use Rattle.rules.proofs.File.Written.{open_head, front_part}
use Rattle.rules.proofs.File.LawfulBook.{Frame, written_number, written_pile, written_readable, Lawful}
use Rattle.rules.proofs.Take.RowBytes.{row, row_part_lem}
use Rattle.rules.proofs.Take.MergeRow.{RowLe, no_split, not_later, merge_own, merge_copy}

-- r has the opening of p and q, and of each desk the row of the one that is nowhere below the other
pub record Merged (n : ℕ) (p q r : Pile) : Type 0 where
  pub floor : p.floor ≡ q.floor
  pub top : p.top ≡ q.top
  pub share : (s : Side) (i : ℕ) → i < n → p.share s i ≡ q.share s i
  pub opening : body_row n r 0 ≡ body_row n p 0
  pub desk : (i : ℕ) → i < n
      → (RowLe n q p i × (body_row n r (suc i) ≡ body_row n p (suc i))) ⊎ (RowLe n p q i × (body_row n r (suc i) ≡ body_row n q (suc i)))

module _ (n p : ℕ) (numbers : ℕ → ℕ) (frame : Frame n p numbers) (P Q R : ℕ → Pile) (lawfulP : Lawful n p P) (lawfulQ : Lawful n p Q)
    (merged : (k : ℕ) → k < p → Merged n (P k) (Q k) (R k)) where
  abbrev own : List ℕ
  own = book_bytes n p numbers P

  abbrev copy : List ℕ
  copy = book_bytes n p numbers Q

  fits_p : (k : ℕ) → k < p → Fits n (P k)
  fits_p k l = lawful_fits n (P k) (lawfulP k l)

  fits_q : (k : ℕ) → k < p → Fits n (Q k)
  fits_q k l = lawful_fits n (Q k) (lawfulQ k l)

  -- the books are of one opening
  one_opening : (k : ℕ) → k < p → same_opening n (pile_of own k) (pile_of copy k) ≡ true
  one_opening k l =
      let a = written_pile n p numbers frame P lawfulP k l in
      let b = written_pile n p numbers frame Q lawfulQ k l in
      same_opening_lem n _ _ (a.floor ∙ (merged k l).floor ∙ sym b.floor) (a.top ∙ (merged k l).top ∙ sym b.top)
      (λ s i m. a.share s i m ∙ (merged k l).share s i m ∙ sym (b.share s i m))

  pub same_book_lem : same_book own copy ≡ true
  unfolding same_book open_head
  same_book_lem =
      and_both (eq-eqb n n refl)
      (and_both (eq-eqb p p refl)
      (every_all p (λ k l. and_both (eq-eqb _ _ (written_number n p numbers frame P k l ∙ sym (written_number n p numbers frame Q k l)))
      (one_opening k l))))

  -- no row is split, and at the taker's own desk the copy's is not later
  row_accepted : (d : ℕ) → ((k : ℕ) → k < p → RowLe n (Q k) (P k) d) → (k i : ℕ) → k < p → i < n
      → row_answer (eqb i d) (compared (row_part own k (suc i)) (row_part copy k (suc i))) ≡ 0
  unfolding row_answer
  row_accepted d ahead k i k<p i<n =
      rw (row_part_lem n p numbers P k (suc i) k<p (suc-le-suc i<n), row_part_lem n p numbers Q k (suc i) k<p (suc-le-suc i<n))
      (none_met
      (not_met 31 (no_split n i frame.sizes.desks_least frame.sizes.desks_most i<n (P k) (Q k) (fits_p k k<p) (fits_q k k<p)
      (⊎_map (λ h. h.0) (λ h. h.0) ((merged k k<p).desk i i<n))))
      (not_met 32 (⊎_elim takers (λ e. and_right_fails _ e) (decided (eqb i d)))))
    where
      takers : eqb i d ≡ true → is_copy_later (compared (row n (P k) i) (row n (Q k) i)) and eqb i d ≡ false
      takers e =
          and_left_fails
          (not_later n i frame.sizes.desks_least frame.sizes.desks_most i<n (P k) (Q k) (fits_p k k<p) (fits_q k k<p)
          (rw (eqb-true i d e) (ahead k k<p)))
          (eqb i d)

  pub take_accepted : (d : ℕ) → d < n → ((k : ℕ) → k < p → RowLe n (Q k) (P k) d) → take_answer d own copy ≡ 0
  unfolding take_answer open_head
  take_accepted d d<n ahead =
      none_met (written_readable n p numbers frame P lawfulP)
      (none_met (ap of_copy (written_readable n p numbers frame Q lawfulQ))
      (none_met (not_met 11 (ap not (lt-ltb d n d<n)))
      (none_met (not_met 30 (ap not same_book_lem))
      (first_none p (λ k k<p. first_none n (λ i i<n. row_accepted d ahead k i k<p i<n))))))

  -- what the take leaves
  taken_row_lem : (k r : ℕ) → k < p → r < suc n → taken_row own copy k r ≡ encode (body_row n (R k) r)
  unfolding taken_row
  taken_row_lem k zero k<p r<n = row_part_lem n p numbers P k 0 k<p r<n ∙ ap encode (sym (merged k k<p).opening)
  taken_row_lem k (suc i) k<p r<n =
      let i<n : i < n = le_of_suc-le-suc r<n in
      ap₂ later_row (row_part_lem n p numbers P k (suc i) k<p r<n) (row_part_lem n p numbers Q k (suc i) k<p r<n)
      ∙ ⊎_elim
      (λ h. merge_own n i frame.sizes.desks_least frame.sizes.desks_most i<n (P k) (Q k) (fits_p k k<p) (fits_q k k<p) h.0 ∙ ap encode (sym h.1))
      (λ h. merge_copy n i frame.sizes.desks_least frame.sizes.desks_most i<n (P k) (Q k) (fits_p k k<p) (fits_q k k<p) h.0 ∙ ap encode (sym h.1))
      ((merged k k<p).desk i i<n)

  pub taken_book : taken own copy ≡ book_bytes n p numbers R
  unfolding taken open_head body_bytes
  taken_book =
      ap₂ ◌++◌ (front_part n p numbers P) (flat_cong p (λ k k<p. flat_cong (suc n) (λ r r<n. taken_row_lem k r k<p r<n)))

  pub take_merges : (d : ℕ) → d < n → ((k : ℕ) → k < p → RowLe n (Q k) (P k) d) → after_take d own copy ≡ book_bytes n p numbers R
  unfolding after_take
  take_merges d d<n ahead = when_accepted _ _ _ (take_accepted d d<n ahead) ∙ taken_book
