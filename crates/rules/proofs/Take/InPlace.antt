-- The taken book, written in place: over each row, in file order, the later of it and the copy's row. An opening's row is the same in both.
-- Assumes nothing.
use Prim.Native.Nat.{ℕ, zero, suc, ◌+◌, ◌*◌, ◌≤◌, ◌<◌}
use native.Mathlib.Nat.{zero-lt-suc, le_of_suc-le-suc, add-mul, mul_assoc}
use native.Mathlib.Omega.{arith}
use mathlib.Core.Path.{◌≡◌, refl, ap, ap₂, sym, ◌∙◌}
use mathlib.Core.Bool.{Bool, true, false, cond, false≢true}
use mathlib.Core.List.{List, ◌++◌}
use lib.ListN.{length}
use lib.Seq.{sets}
use lib.Dec.{eqb}
use Rattle.history.proofs.Sets.{cases}
use Rattle.rules.specs.Loops.{◌and◌, flat, every}
use Rattle.rules.specs.Numbers.{number, part}
use Rattle.rules.specs.Pile.{same_opening}
use Rattle.rules.specs.Layout.{Head, head_of, head_for, columns, row_length, front_length, body_at, book_length, cell_at, column, view, desks, piles, pile_number, pile_of}
use Rattle.rules.specs.Refusals.{first}
use Rattle.rules.specs.Rows.{alike, Comparison, both_alike, mine_later, copy_later, both_split, refused, is_alike, is_copy_later, is_split, numbers_of, places, compared, is_row_length}
use Rattle.rules.specs.Book.{book_answer}
use Rattle.rules.specs.Take.{row_part, of_copy, same_book, row_answer, take_answer, taken_row, taken, after_take}
use Rattle.rules.proofs.Loops.Logic.{same, and_left, and_right, and_left_holds}
use Rattle.rules.proofs.Loops.Every.{every_at, every_cong}
use Rattle.rules.proofs.Loops.Refusals.{when_done, when_not_done, or_else_first, or_else_rest, first_at, first_cong, when_accepted}
use Rattle.rules.proofs.Loops.Ranges.{piece_within}
use Rattle.rules.proofs.Loops.Pieces.{flat_cong, length_flat, flat_flat}
use Rattle.rules.proofs.Loops.Parts.{length_part}
use Rattle.rules.proofs.Loops.Sets.{sets_to_end}
use Rattle.rules.proofs.Bytes.Numbers.{number_part}
use Rattle.rules.proofs.Pile.Facts.{both_at}
use Rattle.rules.proofs.Pile.Agree.{same_opening_lem}
use Rattle.rules.proofs.File.Body.{by_column, column_below, row_length_lem, body_rows, row_within}
use Rattle.rules.proofs.File.Positions.{body_start_lem, first_body_lem, body_within, book_end}
use Rattle.rules.proofs.File.Readable.{BookFacts, book_facts, head_read}
use Rattle.rules.proofs.Take.Order.{alike_at, alike_all}
use Rattle.rules.proofs.Take.RowOrder.{alike_told}
use Rattle.rules.proofs.Take.Compared.{later_of, compared_rows, later_row_lem}
use Rattle.rules.proofs.Take.RowBytes.{is_row_length_lem}
use borrow.Author.Tests.{eqb-true, ltb-true, eq-eqb}

-- two openings agree exactly where their rows are alike
pub opening_alike : (n : ℕ) (cell cell' : ℕ → ℕ → ℕ) → same_opening n (view n cell) (view n cell') ≡ alike (columns n) (cell 0) (cell' 0)
unfolding same_opening
opening_alike n cell cell' =
    same _ _
    (λ e. alike_all (columns n) _ _ (by_column n (λ c. cell 0 c ≡ cell' 0 c) (eqb-true _ _ (and_left _ _ e)) (eqb-true _ _ (and_left _ _ (and_right _ _ e)))
    (λ s i l. eqb-true _ _ (both_at _ (every_at n _ (and_right _ _ (and_right _ _ e)) i l) s))))
    (λ e. let at = alike_at (columns n) _ _ e in
    same_opening_lem n (view n cell) (view n cell') (at 0 (omega arith)) (at 1 (omega arith)) (λ s i l. at (column n s i) (column_below n s i l)))

-- a row of a readable book: it is there, and its numbers are the cells'
module _ (b : List ℕ) (f : BookFacts b) (k r : ℕ) (k<p : k < piles b) (r<n : r < suc (desks b)) where
  row_in : body_at (head_of b) k + cell_at (desks b) r 0 + row_length (desks b) ≤ length b
  unfolding cell_at
  row_in = omega (arith, f.sized, body_within (head_of b) k k<p, row_within (desks b) r r<n)

  pub row_long : length (row_part b k r) ≡ row_length (desks b)
  unfolding row_part
  row_long = length_part _ _ b row_in

  pub row_count : places (row_part b k r) ≡ columns (desks b)
  row_count = omega (arith, row_long, row_length_lem (desks b))

  pub row_cell : (c : ℕ) → c < columns (desks b) → numbers_of (row_part b k r) c ≡ number 4 b (body_at (head_of b) k + cell_at (desks b) r c)
  unfolding row_part cell_at
  row_cell c l =
      number_part 4 b (body_at (head_of b) k + cell_at (desks b) r 0) (row_length (desks b)) (c * 4) (omega (arith, row_length_lem (desks b))) ∙ ap (number 4 b) (omega arith)

-- the row that is handed on
pub later_of_long : (a b : List ℕ) (ℓ : ℕ) → length a ≡ ℓ → length b ≡ ℓ → length (later_of a b) ≡ ℓ
later_of_long a b ℓ e d = cases (λ (l : List ℕ). length l ≡ ℓ) (is_copy_later (compared a b)) (λ _. d) (λ _. e)

-- of alike rows the copy's is not later
pub alike_not_later : (rows : Comparison) → is_alike rows ≡ true → is_copy_later rows ≡ false
alike_not_later both_alike e = refl
alike_not_later mine_later e = absurd (false≢true e)
alike_not_later copy_later e = absurd (false≢true e)
alike_not_later both_split e = absurd (false≢true e)
alike_not_later (refused number) e = absurd (false≢true e)

-- two readable books of as many desks and piles
module _ (own copy : List ℕ) (f : BookFacts own) (g : BookFacts copy) (same_n : desks own ≡ desks copy) (same_p : piles own ≡ piles copy) where
  abbrev n : ℕ
  n = desks own

  abbrev p : ℕ
  p = piles own

  abbrev h : Head
  h = head_of own

  pub same_head : head_of own ≡ head_of copy
  same_head = head_read own f ∙ ap₂ head_for same_n same_p ∙ sym (head_read copy g)

  -- row r of body k starts at the same position in both
  abbrev pub row_at : ℕ → ℕ → ℕ
  row_at k r = body_at h k + r * row_length n

  pub row_start : (k r : ℕ) → body_at h k + cell_at n r 0 ≡ row_at k r
  unfolding cell_at
  row_start k r = omega arith

  pub own_row : (k r : ℕ) → row_part own k r ≡ part (row_at k r) (row_length n) own
  unfolding row_part
  own_row k r = ap (λ (at : ℕ). part at (row_length n) own) (row_start k r)

  pub copy_row : (k r : ℕ) → row_part copy k r ≡ part (row_at k r) (row_length n) copy
  unfolding row_part
  copy_row k r =
      ap (λ (h : Head). part (body_at h k + cell_at h.desks r 0) (row_length h.desks) copy) (sym same_head)
      ∙ ap (λ (at : ℕ). part at (row_length n) copy) (row_start k r)

  copy_cell : (k r c : ℕ) → k < p → r < suc n → c < columns n → numbers_of (row_part copy k r) c ≡ number 4 copy (body_at h k + cell_at n r c)
  copy_cell k r c k<p r<n c<w =
      row_cell copy g k r (omega (arith, same_p)) (omega (arith, same_n)) c (omega (arith, same_n))
      ∙ ap (λ (h : Head). number 4 copy (body_at h k + cell_at h.desks r c)) (sym same_head)

  -- row r of body k has a row's length, and is as long in both
  pub is_row : (k r : ℕ) → k < p → r < suc n → is_row_length (length (row_part own k r)) ≡ true
  is_row k r k<p l = ap is_row_length (row_long own f k r k<p l) ∙ is_row_length_lem n f.sizes.desks_least f.sizes.desks_most

  pub as_long : (k r : ℕ) → k < p → r < suc n → length (row_part own k r) ≡ length (row_part copy k r)
  as_long k r k<p l =
      row_long own f k r k<p l ∙ sym (row_long copy g k r (omega (arith, same_p)) (omega (arith, same_n)) ∙ ap row_length (sym same_n))

  -- the openings of pile k agree exactly where its opening rows are alike
  pub openings_test : (k : ℕ) → k < p → same_opening n (pile_of own k) (pile_of copy k) ≡ is_alike (compared (row_part own k 0) (row_part copy k 0))
  unfolding pile_of alike
  openings_test k k<p =
      ap (same_opening n (pile_of own k)) (ap (λ (h : Head). view h.desks (λ r c. number 4 copy (body_at h k + cell_at h.desks r c))) (sym same_head))
      ∙ opening_alike n (λ r c. number 4 own (body_at h k + cell_at n r c)) (λ r c. number 4 copy (body_at h k + cell_at n r c))
      ∙ sym (ap (λ (m : ℕ). every m (λ c. eqb (numbers_of (row_part own k 0) c) (numbers_of (row_part copy k 0) c))) (row_count own f k 0 k<p (zero-lt-suc n))
      ∙ every_cong (columns n) (λ c l. ap₂ eqb (row_cell own f k 0 k<p (zero-lt-suc n) c l) (copy_cell k 0 c k<p (zero-lt-suc n) l)))
      ∙ sym (ap is_alike (compared_rows _ _ (is_row k 0 k<p (zero-lt-suc n)) (as_long k 0 k<p (zero-lt-suc n))) ∙ alike_told _ _ _)

  first_row : (k : ℕ) → body_at h k ≡ row_at k 0
  first_row k = omega arith

  -- the tests of a take, on rows found by their position
  pub same_piles_test : every p (λ k. eqb (pile_number own k) (pile_number copy k)
      and is_alike (compared (part (body_at h k) (row_length n) own) (part (body_at h k) (row_length n) copy)))
      ≡ same_book own copy
  unfolding same_book
  same_piles_test =
      every_cong p (λ k k<p. ap (λ (b : Bool). eqb (pile_number own k) (pile_number copy k) and b)
      (ap₂ (λ (a b : List ℕ). is_alike (compared a b)) (ap (λ (at : ℕ). part at (row_length n) own) (first_row k) ∙ sym (own_row k 0))
      (ap (λ (at : ℕ). part at (row_length n) copy) (first_row k) ∙ sym (copy_row k 0))
      ∙ sym (openings_test k k<p)))
      ∙ and_left_holds (eq-eqb p (piles copy) same_p) _
      ∙ and_left_holds (eq-eqb n (desks copy) same_n) _

  pub rows_test : (d : ℕ)
      → first p (λ k. first n (λ i. row_answer (eqb i d) (compared (part (row_at k (suc i)) (row_length n) own) (part (row_at k (suc i)) (row_length n) copy))))
      ≡ first p (λ k. first n (λ i. row_answer (eqb i d) (compared (row_part own k (suc i)) (row_part copy k (suc i)))))
  rows_test d =
      first_cong p (λ k _. first_cong n (λ i _. ap₂ (λ (a b : List ℕ). row_answer (eqb i d) (compared a b)) (sym (own_row k (suc i))) (sym (copy_row k (suc i)))))

  -- rows in file order: row r of body k is row k(n + 1) + r behind the front
  pub row_in_order : (k r : ℕ) → front_length h + (k * suc n + r) * row_length n ≡ row_at k r
  row_in_order k r =
      omega (arith, body_start_lem h k, add-mul (k * suc n) r (row_length n), mul_assoc k (suc n) (row_length n) ∙ ap (λ (x : ℕ). k * x) (body_rows n))

  pub rows_end : front_length h + p * suc n * row_length n ≡ length own
  rows_end = omega (arith, f.sized, book_end h, mul_assoc p (suc n) (row_length n) ∙ ap (λ (x : ℕ). p * x) (body_rows n))

  pub copy_long : length copy ≡ length own
  copy_long = g.sized ∙ sym (ap book_length same_head) ∙ sym f.sized

  -- what is written over row r, in file order
  abbrev pub piece : ℕ → List ℕ
  piece r = later_of (part (front_length h + r * row_length n) (row_length n) own) (part (front_length h + r * row_length n) (row_length n) copy)

  pub row_within_both : (r : ℕ) → r < p * suc n → front_length h + r * row_length n + row_length n ≤ length own
  row_within_both r l = omega (arith, rows_end, piece_within (row_length n) l)

  pub piece_long : (r : ℕ) → r < p * suc n → length (piece r) ≡ row_length n
  piece_long r l =
      let at = front_length h + r * row_length n in
      later_of_long (part at (row_length n) own) (part at (row_length n) copy) (row_length n) (length_part at (row_length n) own (row_within_both r l))
      (length_part at (row_length n) copy (omega (arith, copy_long, row_within_both r l)))

  module _ (openings : (k : ℕ) → k < p → is_alike (compared (row_part own k 0) (row_part copy k 0)) ≡ true)
      (whole : (k i : ℕ) → k < p → i < n → is_split (compared (row_part own k (suc i)) (row_part copy k (suc i))) ≡ false) where
    row_taken : (k r : ℕ) → k < p → r < suc n → later_of (row_part own k r) (row_part copy k r) ≡ taken_row own copy k r
    unfolding taken_row
    row_taken k zero k<p l = ap (λ (b : Bool). cond b (row_part copy k 0) (row_part own k 0)) (alike_not_later (compared (row_part own k 0) (row_part copy k 0)) (openings k k<p))
    row_taken k (suc i) k<p l = sym (later_row_lem _ _ (is_row k (suc i) k<p l) (as_long k (suc i) k<p l) (whole k i k<p (le_of_suc-le-suc l)))

    pub piece_taken : (k r : ℕ) → k < p → r < suc n → piece (k * suc n + r) ≡ taken_row own copy k r
    piece_taken k r k<p l =
        ap (λ (at : ℕ). later_of (part at (row_length n) own) (part at (row_length n) copy)) (row_in_order k r)
        ∙ ap₂ later_of (sym (own_row k r)) (sym (copy_row k r))
        ∙ row_taken k r k<p l

    taken_in_place : sets own (front_length h) (flat (p * suc n) piece) ≡ taken own copy
    unfolding taken
    taken_in_place =
        sets_to_end own (front_length h) (flat (p * suc n) piece)
        (omega (arith, rows_end, length_flat (p * suc n) (row_length n) piece piece_long))
        ∙ ap₂ (λ (m : ℕ) (r : List ℕ). part 0 m own ++ r) (sym (first_body_lem h))
        (flat_flat p (suc n) piece ∙ flat_cong p (λ k k<p. flat_cong (suc n) (λ r l. piece_taken k r k<p l)))

-- what 30 compares, taken apart
pub record OneBook (own copy : List ℕ) : Type 0 where
  pub same_n : desks own ≡ desks copy
  pub same_p : piles own ≡ piles copy
  pub numbers : (k : ℕ) → k < piles own → pile_number own k ≡ pile_number copy k
  pub openings : (k : ℕ) → k < piles own → same_opening (desks own) (pile_of own k) (pile_of copy k) ≡ true

pub one_book_facts : (own copy : List ℕ) → same_book own copy ≡ true → OneBook own copy
unfolding same_book
one_book_facts own copy e =
    let pile = every_at (piles own) _ (and_right _ _ (and_right _ _ e)) in
    record {
      same_n = eqb-true _ _ (and_left _ _ e);
      same_p = eqb-true _ _ (and_left _ _ (and_right _ _ e));
      numbers = λ k l. eqb-true _ _ (and_left _ _ (pile k l));
      openings = λ k l. and_right _ _ (pile k l);
    }

-- a copy without a refusal of its own is readable
pub copy_done : (answer : ℕ) → of_copy answer ≡ 0 → answer ≡ 0
copy_done zero e = refl
copy_done (suc answer) e = absurd (omega arith)

-- what an accepted take tells, and the book that it leaves
module _ (d : ℕ) (own copy : List ℕ) (accepted : take_answer d own copy ≡ 0) where
  pub own_readable : book_answer own ≡ 0
  unfolding take_answer
  own_readable = or_else_first _ _ accepted

  pub copy_readable : book_answer copy ≡ 0
  unfolding take_answer
  copy_readable = copy_done _ (or_else_first _ _ (or_else_rest _ _ accepted))

  pub one_book : same_book own copy ≡ true
  unfolding take_answer
  one_book = when_not_done _ _ (or_else_first _ _ (or_else_rest _ _ (or_else_rest _ _ (or_else_rest _ _ accepted))))

  pub taker_known : d < desks own
  unfolding take_answer
  taker_known = ltb-true _ _ (when_not_done _ _ (or_else_first _ _ (or_else_rest _ _ (or_else_rest _ _ accepted))))

  pub rows_pass : (k i : ℕ) → k < piles own → i < desks own → row_answer (eqb i d) (compared (row_part own k (suc i)) (row_part copy k (suc i))) ≡ 0
  unfolding take_answer
  rows_pass k i k<p i<n =
      first_at (desks own) _ (first_at (piles own) _ (or_else_rest _ _ (or_else_rest _ _ (or_else_rest _ _ (or_else_rest _ _ accepted)))) k k<p) i i<n

  pub same_desks : desks own ≡ desks copy
  same_desks = (one_book_facts own copy one_book).same_n

  pub same_count : piles own ≡ piles copy
  same_count = (one_book_facts own copy one_book).same_p

  pub own_facts : BookFacts own
  own_facts = book_facts own own_readable

  pub copy_facts : BookFacts copy
  copy_facts = book_facts copy copy_readable

  pub openings_alike : (k : ℕ) → k < piles own → is_alike (compared (row_part own k 0) (row_part copy k 0)) ≡ true
  openings_alike k k<p = sym (openings_test own copy own_facts copy_facts same_desks same_count k k<p) ∙ (one_book_facts own copy one_book).openings k k<p

  pub no_row_split : (k i : ℕ) → k < piles own → i < desks own → is_split (compared (row_part own k (suc i)) (row_part copy k (suc i))) ≡ false
  unfolding row_answer
  no_row_split k i k<p i<n = when_done _ _ (or_else_first _ _ (rows_pass k i k<p i<n))

  pub written : sets own (front_length (head_of own)) (flat (piles own * suc (desks own)) (piece own copy own_facts copy_facts same_desks same_count)) ≡ taken own copy
  written = taken_in_place own copy own_facts copy_facts same_desks same_count openings_alike no_row_split

  pub after_take_lem : sets own (front_length (head_of own)) (flat (piles own * suc (desks own)) (piece own copy own_facts copy_facts same_desks same_count))
      ≡ after_take d own copy
  unfolding after_take
  after_take_lem = written ∙ sym (when_accepted _ _ _ accepted)
