-- Taking in another desk's copy: a state-based merge, row by row.
-- Assumes nothing.
use Rattle.std.specs.Prelude.{ℕ, zero, suc, ◌+◌, ◌≡◌, ◌↔◌, Bool, not, List, ◌++◌, ltb, eqb}
use Rattle.rules.specs.Loops.{◌and◌, every, flat, sum, count}
use Rattle.rules.specs.Refusals.{◌when◌, ◌or_else◌, first, done}
use Rattle.rules.specs.Numbers.{part}
use Rattle.rules.specs.Pile.{same_opening}
use Rattle.rules.specs.Layout.{head_of, row_length, body_at, cell_at, desks, piles, pile_number, pile_of}
use Rattle.rules.specs.Rows.{Comparison, is_alike, is_copy_later, is_split, compared, later_row}
use Rattle.rules.specs.Book.{book_answer}

-- row r of pile k, as a part of its book: row 0 is the opening, row i + 1 desk i's
unfoldable pub row_part : List ℕ → ℕ → ℕ → List ℕ
row_part b k r = part (body_at (head_of b) k + cell_at (desks b) r 0) (row_length (desks b)) b

-- the copy's own refusals are 21 to 27
abbrev pub of_copy : ℕ → ℕ
of_copy zero = zero
of_copy (suc answer) = 20 + suc answer

-- n, the pile numbers and every opening agree
unfoldable pub same_book : List ℕ → List ℕ → Bool
same_book own copy =
    eqb (desks own) (desks copy)
    and eqb (piles own) (piles copy)
    and every (piles own) (λ k. eqb (pile_number own k) (pile_number copy k) and same_opening (desks own) (pile_of own k) (pile_of copy k))

-- "by pile, then by desk": 31, and where the two rows are those of the taker's own desk, which is the first argument, 32; by what comparing them tells
unfoldable pub row_answer : Bool → Comparison → ℕ
row_answer takers rows = 31 when is_split rows or_else 32 when (is_copy_later rows and takers)

unfoldable pub take_answer : ℕ → List ℕ → List ℕ → ℕ
take_answer d own copy =
    book_answer own
    or_else of_copy (book_answer copy)
    or_else 11 when not (ltb d (desks own))
    or_else 30 when not (same_book own copy)
    or_else first (piles own) (λ k. first (desks own) (λ i. row_answer (eqb i d) (compared (row_part own k (suc i)) (row_part copy k (suc i)))))

-- the taken book: for each pile and desk the later row, or the common row; all else is the taker's own
unfoldable pub taken_row : List ℕ → List ℕ → ℕ → ℕ → List ℕ
taken_row own copy k zero = row_part own k 0
taken_row own copy k (suc i) = later_row (row_part own k (suc i)) (row_part copy k (suc i))

unfoldable pub taken : List ℕ → List ℕ → List ℕ
taken own copy =
    part 0 (body_at (head_of own) 0) own ++ flat (piles own) (λ k. flat (suc (desks own)) (taken_row own copy k))

unfoldable pub after_take : ℕ → List ℕ → List ℕ → List ℕ
after_take d own copy = done (take_answer d own copy) (taken own copy) own

-- is the row of a pile and desk another in the second of two books than in the first; and how many such pairs of a pile and a desk are there
unfoldable pub row_changed : List ℕ → List ℕ → ℕ → ℕ → Bool
row_changed before after k i = not (is_alike (compared (row_part before k (suc i)) (row_part after k (suc i))))

unfoldable pub changed_rows : List ℕ → List ℕ → ℕ
changed_rows before after = sum (piles before) (λ k. count (desks before) (row_changed before after k))

-- what an accepted take reports: the number of pile and desk pairs whose row changed; 0 beside a refusal's number
unfoldable pub take_report : ℕ → List ℕ → List ℕ → ℕ
take_report d own copy = done (take_answer d own copy) (changed_rows own (taken own copy)) 0

-- 5/12: an accepted take reports 0 exactly when the book's bytes are unaltered.
abbrev pub ReportZero : Type 0
ReportZero = (d : ℕ) (own copy : List ℕ) → take_answer d own copy ≡ 0 → (take_report d own copy ≡ 0) ↔ (after_take d own copy ≡ own)
