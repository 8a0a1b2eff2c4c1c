-- Opening a book from n, p and a list of 4-byte numbers: for each pile its number, floor, top and shares. Tallies start at 0.
-- Assumes nothing.
use Rattle.std.specs.Prelude.{ℕ, zero, suc, ◌+◌, ◌*◌, ◌≡◌, Bool, cond, not, List, length, get_or, leb, ltb, eqb}
use Rattle.std.proofs.lemmas.List.Edits.{sets}
use Rattle.rules.specs.Loops.{◌and◌, between, every}
use Rattle.rules.specs.Refusals.{◌when◌, ◌or_else◌, first, done}
use Rattle.rules.specs.Numbers.{part}
use Rattle.rules.specs.Pile.{Pile, opening_lawful}
use Rattle.rules.specs.Layout.{head_for, desk_limit, pile_number_limit, column, body_length, book_length, book_bytes, sizes_in_range}

-- pile numbers are 1 to 65,535, strictly rising: each is above the one before it, the first above 0
abbrev pub previous : (ℕ → ℕ) → ℕ → ℕ
previous f zero = 0
previous f (suc k) = f k

unfoldable pub rising : ℕ → (ℕ → ℕ) → Bool
rising p f = every p (λ k. ltb (previous f k) (f k) and leb (f k) pile_number_limit)

-- the list's numbers for pile k
unfoldable pub given : ℕ → List ℕ → ℕ → ℕ → ℕ
given n l k c = get_or l (k * (3 + 2 * n) + c) 0

unfoldable pub given_pile : ℕ → List ℕ → ℕ → Pile
given_pile n l k =
    record {
      floor = given n l k 1;
      top = given n l k 2;
      share = λ s i. given n l k (1 + column n s i);
      earned = λ s i. 0;
      give = λ s i j. 0;
    }

-- what a buffer for a book of n desks and p piles must hold; 0 where there is no such book
unfoldable pub buffer_length : ℕ → ℕ → ℕ
buffer_length n p = cond (sizes_in_range n p) (book_length (head_for n p)) 0

-- how long a body of n desks is; 0 where no book has n desks
unfoldable pub body_size : ℕ → ℕ
body_size n = cond (between 1 desk_limit n) (body_length n) 0

-- "Opening": 2, 3, 4, 5 by pile, and 8 where the lent output has less room than the book needs
unfoldable pub opening_answer : ℕ → ℕ → List ℕ → ℕ → ℕ
opening_answer n p l room =
    2 when not (sizes_in_range n p)
    or_else 3 when not (eqb (length l) (p * (3 + 2 * n)))
    or_else 4 when not (rising p (λ k. given n l k 0))
    or_else first p (λ k. 5 when not (opening_lawful n (given_pile n l k)))
    or_else 8 when ltb room (book_length (head_for n p))

-- the opened book, and what the opening leaves in the lent output: bytes past the book stay
unfoldable pub opened : ℕ → ℕ → List ℕ → List ℕ
opened n p l = book_bytes n p (λ k. given n l k 0) (given_pile n l)

unfoldable pub after_opening : ℕ → ℕ → List ℕ → List ℕ → List ℕ
after_opening n p l out = done (opening_answer n p l (length out)) (sets out 0 (opened n p l)) out

-- a list opens a book of n desks and p piles: given room for it, it is refused nothing
abbrev pub Opens : ℕ → ℕ → List ℕ → Type 0
Opens n p l = opening_answer n p l (book_length (head_for n p)) ≡ 0

-- What `open` leaves is where a history starts: the lent buffer begins with the opened book, which is readable.
abbrev pub BufferStarts : Type 0
BufferStarts =
    (n p : ℕ) (l out : List ℕ) → opening_answer n p l (length out) ≡ 0
    → Opens n p l × (part 0 (book_length (head_for n p)) (after_opening n p l out) ≡ opened n p l)
