-- What the functions of a take ask of the taker's book and the copy, and the marks that judging their rows leaves: is the row later in the copy? Rows go by
-- their number in file order, counted from a position on.
-- Assumes nothing.
use Rattle.std.specs.Prelude.{eqb, ℕ, suc, ◌+◌, ◌*◌, ◌≤◌, ◌<◌, ◌≡◌, Bool, true, false, List, length, get_or}
use Rattle.rules.specs.Loops.{◌and◌}
use Rattle.rules.specs.Numbers.{part}
use Rattle.rules.specs.Layout.{Sizes, Head, row_length, front_length, body_at, book_length, pile_number}
use Rattle.rules.specs.Rows.{Comparison, is_row_length, compared, is_alike, is_copy_later}
use Rattle.rules.specs.Take.{row_answer}
use Rattle.layout.specs.Positions.{as_head}
use Rattle.take.specs.declared.judge.Books.{Books}

-- so many bytes from a position on lie within both books
pub record InBoth (at count : ℕ) (own copy : List ℕ) : Type 0 where
  pub in_own : at + count ≤ length own
  pub in_copy : at + count ≤ length copy

-- and they are as long as a row
pub record RowInBoth (at row : ℕ) (own copy : List ℕ) : Type 0 where
  pub within : InBoth at row own copy
  pub is_row : is_row_length row ≡ true

-- so many rows, few enough that no position wraps
pub record RowsInBoth (at row count : ℕ) (own copy : List ℕ) : Type 0 where
  pub row_most : row ≤ 72
  pub count_most : count ≤ 288
  pub within : InBoth at (count * row) own copy

-- books with one head, side by side
pub record Alongside (h : Head) (own copy : List ℕ) : Type 0 where
  pub sizes : Sizes h.desks h.piles
  pub own_sized : length own ≡ book_length h
  pub copy_sized : length copy ≡ book_length h

-- the opening row of pile k, as a part of its book
abbrev pub opening_part : Head → ℕ → List ℕ → List ℕ
opening_part h k b = part (body_at h k) (row_length h.desks) b

-- what comparing row k of both books tells, and is the copy's later
abbrev pub compared_at : ℕ → ℕ → List ℕ → List ℕ → ℕ → Comparison
compared_at at row own copy k = compared (part (at + k * row) row own) (part (at + k * row) row copy)

abbrev pub later_at : ℕ → ℕ → List ℕ → List ℕ → ℕ → Bool
later_at at row own copy k = is_copy_later (compared_at at row own copy k)

-- the first so many rows have their marks, and no mark behind them is set
pub record Marked (at row rows : ℕ) (own copy : List ℕ) (marks : List Bool) : Type 0 where
  pub said : (k : ℕ) → k < rows → get_or marks k false ≡ later_at at row own copy k
  pub unset : (k : ℕ) → rows ≤ k → get_or marks k false ≡ false

-- and so have all rows behind the front of books with one head
abbrev pub AllMarked : Head → List ℕ → List ℕ → List Bool → Type 0
AllMarked h own copy marks = Marked (front_length h) (row_length h.desks) (h.piles * suc h.desks) own copy marks

-- the rows of all piles are to be judged: no opening is later in the copy
pub record PilesAhead (h : Head) (own copy : List ℕ) : Type 0 where
  pub sizes : Sizes h.desks h.piles
  pub rows : RowsInBoth (front_length h) (row_length h.desks) (h.piles * suc h.desks) own copy
  pub openings : (k : ℕ) → k < h.piles → later_at (front_length h) (row_length h.desks) own copy (k * suc h.desks) ≡ false

-- what comparing the rows at one position of two books tells, and the answer of the row of desk i of pile k
abbrev pub rows_there : Books → ℕ → ℕ → Comparison
rows_there b at row = compared (part at row b.own.now) (part at row b.copy.now)

abbrev pub desk_told : Books → ℕ → ℕ → ℕ → ℕ
desk_told b desk k i =
    row_answer (eqb i desk) (compared_at (front_length (as_head b.head)) (row_length b.head.desks) b.own.now b.copy.now (k * suc b.head.desks + suc i))

-- has pile k one number in both, and are its openings alike
abbrev pub same_pile : Books → ℕ → Bool
same_pile b k =
    let h = as_head b.head in
    eqb (pile_number b.own.now k) (pile_number b.copy.now k) and is_alike (compared (opening_part h k b.own.now) (opening_part h k b.copy.now))

-- the rows of so many piles have their marks
abbrev pub PilesMarked : Books → ℕ → List Bool → Type 0
PilesMarked b k marks = Marked (front_length (as_head b.head)) (row_length b.head.desks) (k * suc b.head.desks) b.own.now b.copy.now marks

-- the rows of the desks of pile k are to be judged: those of the piles before it have their marks
pub record DesksAhead (b : Books) (k : ℕ) (marks : List Bool) : Type 0 where
  pub piles : PilesAhead (as_head b.head) b.own.now b.copy.now
  pub pile : k < b.head.piles
  pub before : PilesMarked b k marks
