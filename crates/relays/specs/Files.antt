-- The join on bytes (6/12): the book that a file holds, the file of a book, and what two files meet in a take whatever the taker's desk.
-- Assumes nothing.
use Rattle.std.specs.Prelude.{ℕ, suc, not, List}
use Rattle.rules.specs.Loops.{list}
use Rattle.rules.specs.Refusals.{◌when◌, ◌or_else◌, first}
use Rattle.rules.specs.Pile.{Pile}
use Rattle.rules.specs.Layout.{desks, piles, pile_number, pile_of, body_row, book_bytes}
use Rattle.rules.specs.Rows.{is_split, compared}
use Rattle.rules.specs.Book.{book_answer}
use Rattle.rules.specs.Take.{row_part, of_copy, same_book}
use Rattle.relays.specs.Join.{Body, Book, body_in, pile_in, join}

-- the book that a file holds
abbrev pub body_held : ℕ → Pile → Body
body_held n p = record { opening = body_row n p 0; rows = list n (λ i. body_row n p (suc i)) }

unfoldable pub book_of : List ℕ → Book
book_of b = list (piles b) (λ k. body_held (desks b) (pile_of b k))

-- the file of a book of n desks and p piles under their pile numbers
unfoldable pub file : ℕ → ℕ → (ℕ → ℕ) → Book → List ℕ
file n p pile_numbers a = book_bytes n p pile_numbers (λ k. pile_in n (body_in a k))

-- the join of the books that two files hold, as a file under the first one's pile numbers
unfoldable pub joined_file : List ℕ → List ℕ → List ℕ
joined_file own copy = file (desks own) (piles own) (pile_number own) (join (desks own) (piles own) (book_of own) (book_of copy))

-- What joining two files meets: the take's table without the two lines that name the taker's desk, 11 and 32.
unfoldable pub join_answer : List ℕ → List ℕ → ℕ
join_answer own copy =
    book_answer own
    or_else of_copy (book_answer copy)
    or_else 30 when not (same_book own copy)
    or_else first (piles own) (λ k. first (desks own) (λ i. 31 when is_split (compared (row_part own k (suc i)) (row_part copy k (suc i)))))
