-- "Bytes" of document 01: where each number of a file stands, and a file written from its parts.
-- Assumes nothing.
use Rattle.std.specs.Prelude.{ℕ, zero, suc, ◌+◌, ◌*◌, ◌≤◌, Bool, List, [], ◌∷◌, ◌++◌, get_or}
use Rattle.rules.specs.Loops.{◌and◌, between, flat, list}
use Rattle.rules.specs.Numbers.{number, bytes, encode}
use Rattle.rules.specs.Pile.{Side, draw, tip, other, Pile}
use Rattle.rules.specs.Acts.{Kind, spend, give}

-- a book has 1 to 8 desks and 1 to 32 piles, numbered 1 to 65,535
abbrev pub desk_limit : ℕ
desk_limit = 8

abbrev pub pile_limit : ℕ
pile_limit = 32

abbrev pub pile_number_limit : ℕ
pile_number_limit = 65535

unfoldable pub sizes_in_range : ℕ → ℕ → Bool
sizes_in_range n p = between 1 desk_limit n and between 1 pile_limit p

-- and as plain facts
pub record Sizes (n p : ℕ) : Type 0 where
  pub desks_least : 1 ≤ n
  pub desks_most : n ≤ desk_limit
  pub piles_least : 1 ≤ p
  pub piles_most : p ≤ pile_limit

-- A body is n + 1 rows of 2(n + 1) numbers: row 0 is the opening, row i + 1 belongs to desk i. A record's rows have the columns of 8 desks.
abbrev pub columns : ℕ → ℕ
columns w = 2 + (w + w)

unfoldable pub row_length : ℕ → ℕ
row_length n = 8 * (n + 1)

unfoldable pub body_length : ℕ → ℕ
body_length n = 8 * ((n + 1) * (n + 1))

-- The head of a book, 4 bytes: it decides where everything else stands. That of a list of bytes; and that of a book of n desks and p piles as it is
-- written: version 1, n, p, 0.
pub record Head : Type 0 where
  pub version : ℕ
  pub desks : ℕ
  pub piles : ℕ
  pub fourth : ℕ

abbrev pub head_of : List ℕ → Head
head_of b = record { version = get_or b 0 0; desks = get_or b 1 0; piles = get_or b 2 0; fourth = get_or b 3 0 }

abbrev pub head_for : ℕ → ℕ → Head
head_for n p = record { version = 1; desks = n; piles = p; fourth = 0 }

abbrev pub desks : List ℕ → ℕ
desks b = (head_of b).desks

abbrev pub piles : List ℕ → ℕ
piles b = (head_of b).piles

-- The front of a book: a head of 4 bytes, and for each pile an entry of 6, its number in 2 and its position in 4.
abbrev pub entry_at : ℕ → ℕ
entry_at k = 4 + k * 6

abbrev pub position_at : ℕ → ℕ
position_at k = 6 + k * 6

-- How long the front is. Nothing but the few facts of proofs/File/Positions and the code's own function sees what it is made of.
unfoldable pub front_length : Head → ℕ
front_length h = 4 + h.piles * 6

-- where body k starts; the book ends where a body p would
unfoldable pub body_at : Head → ℕ → ℕ
body_at h k = front_length h + k * body_length h.desks

unfoldable pub book_length : Head → ℕ
book_length h = body_at h h.piles

-- where a row's column stands in a body
unfoldable pub cell_at : ℕ → ℕ → ℕ → ℕ
cell_at n row column = row * row_length n + column * 4

-- The columns of a row with w places for each kind of gives or shares: floor or tipped, top or drawn, those of draw, those of tip.
abbrev pub earned_column : Side → ℕ
earned_column draw = 0
earned_column tip = 1

abbrev pub column : ℕ → Side → ℕ → ℕ
column w draw j = 2 + j
column w tip j = 2 + (w + j)

-- the column of the tally that an act adds to
abbrev pub act_column : ℕ → Kind → ℕ
act_column w (spend s) = earned_column (other s)
act_column w (give s j) = column w s j

-- the pile whose rows have w places for each kind, read through a function from row and column to a number
abbrev pub view : ℕ → (ℕ → ℕ → ℕ) → Pile
view w cell =
    record {
      floor = cell 0 0;
      top = cell 0 1;
      share = λ s i. cell 0 (column w s i);
      earned = λ s i. cell (suc i) (earned_column s);
      give = λ s i j. cell (suc i) (column w s j);
    }

-- the pile of the body that starts at a position of a list of bytes
abbrev pub body_view : ℕ → List ℕ → ℕ → Pile
body_view n b at = view n (λ row column. number 4 b (at + cell_at n row column))

-- the contents of a book, and the pile at place k
unfoldable pub pile_number : List ℕ → ℕ → ℕ
pile_number b k = number 2 b (entry_at k)

unfoldable pub position : List ℕ → ℕ → ℕ
position b k = number 4 b (position_at k)

unfoldable pub pile_of : List ℕ → ℕ → Pile
pile_of b k = body_view (desks b) b (body_at (head_of b) k)

-- A body as its numbers: floor, top, n draw shares, n tip shares, then n rows, each tipped, drawn, draw gives, tip gives.
unfoldable pub row_of : ℕ → ℕ → ℕ → (Side → ℕ → ℕ) → List ℕ
row_of n a b f = a ∷ b ∷ (list n (f draw) ++ list n (f tip))

unfoldable pub body_row : ℕ → Pile → ℕ → List ℕ
body_row n p zero = row_of n p.floor p.top p.share
body_row n p (suc i) = row_of n (p.earned draw i) (p.earned tip i) (λ s. p.give s i)

unfoldable pub body_bytes : ℕ → Pile → List ℕ
body_bytes n p = flat (suc n) (λ row. encode (body_row n p row))

-- the front of a book from its head and its pile numbers
unfoldable pub head_bytes : Head → List ℕ
head_bytes h = h.version ∷ h.desks ∷ h.piles ∷ h.fourth ∷ []

unfoldable pub entry_bytes : Head → (ℕ → ℕ) → ℕ → List ℕ
entry_bytes h numbers k = bytes 2 (numbers k) ++ bytes 4 (body_at h k)

unfoldable pub front_bytes : Head → (ℕ → ℕ) → List ℕ
front_bytes h numbers = head_bytes h ++ flat h.piles (entry_bytes h numbers)

-- a book from its desks, its piles, their numbers, and their bodies without gaps
unfoldable pub book_bytes : ℕ → ℕ → (ℕ → ℕ) → (ℕ → Pile) → List ℕ
book_bytes n p numbers pile = front_bytes (head_for n p) numbers ++ flat p (λ k. body_bytes n (pile k))
