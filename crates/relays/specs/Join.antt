-- Joining two books by the take rule, without a taker's desk (6/12). A book here is its openings and rows: n desks and p piles may be any numbers, and nothing
-- is said of bytes.
-- Assumes nothing.
use Rattle.std.specs.Prelude.{ℕ, zero, suc, cond, List, [], get_or}
use Rattle.rules.specs.Loops.{list}
use Rattle.rules.specs.Pile.{Pile}
use Rattle.rules.specs.Layout.{columns, view}
use Rattle.rules.specs.Rows.{Comparison, row_order, is_copy_later}

-- A pile's body as lists of numbers in the file's order: the opening is floor, top, draw shares and tip shares, the row of a desk tipped, drawn,
-- draw gives and tip gives.
pub record Body : Type 0 where
  pub opening : List ℕ
  pub rows : List (List ℕ)

abbrev pub Book : Type 0
Book = List Body

-- the row of desk i; the body of the pile at place k
abbrev pub desk_row : Body → ℕ → List ℕ
desk_row x i = get_or x.rows i []

abbrev pub body_in : Book → ℕ → Body
body_in a k = get_or a k (record { opening = []; rows = [] })

abbrev pub row : Book → ℕ → ℕ → List ℕ
row a k i = desk_row (body_in a k) i

abbrev pub numbers : List ℕ → ℕ → ℕ
numbers r c = get_or r c 0

-- the pile of a body of n desks, read by side and desk
abbrev pub cell : Body → ℕ → ℕ → ℕ
cell x zero = numbers x.opening
cell x (suc i) = numbers (desk_row x i)

abbrev pub pile_in : ℕ → Body → Pile
pile_in n x = view n (cell x)

-- Comparing two rows of n desks, as a take does.
abbrev pub order : ℕ → List ℕ → List ℕ → Comparison
order n mine copy = row_order (columns n) (numbers mine) (numbers copy)

-- "for each pile and desk, the later row, or the common row"; of two split rows, which the laws keep out, mine
unfoldable pub join_row : ℕ → List ℕ → List ℕ → List ℕ
join_row n mine copy = cond (is_copy_later (order n mine copy)) copy mine

unfoldable pub join_body : ℕ → Body → Body → Body
join_body n x y = record { opening = x.opening; rows = list n (λ i. join_row n (desk_row x i) (desk_row y i)) }

unfoldable pub join : ℕ → ℕ → Book → Book → Book
join n p a b = list p (λ k. join_body n (body_in a k) (body_in b k))
