-- The laws on three small books, computed, so that a wrong join is refused by the law that it breaks; and a table of what joins give and of what takes meet.
-- Assumes nothing.
use Prim.Native.Nat.{ℕ, suc}
use mathlib.Core.Path.{◌≡◌, refl}
use mathlib.Core.List.{List, [], ◌∷◌, ◌++◌}
use lib.Dec.{eqb}
use Rattle.rules.specs.Loops.{◌or◌}
use Rattle.rules.specs.Refusals.{first}
use Rattle.rules.specs.Pile.{pile_answer}
use Rattle.rules.specs.Book.{book_answer}
use Rattle.rules.specs.Take.{take_answer, taken, after_take}
use Rattle.rules.proofs.Cases.Letters.{F, G}
use Rattle.rules.proofs.Cases.Table.{Case, case, AllHold, all_hold, open_loops, open_refusals, open_numbers, open_pile, open_layout, open_rows, open_opening, open_book, open_take}
use Rattle.relays.specs.Join.{Body, Book, body_in, pile_in, join_row, join_body, join}
use Rattle.relays.specs.Files.{book_of, file, joined_file, join_answer}
use Rattle.relays.proofs.Bodies.{repeated, wide, first_tipped, last_tipped}

-- two desks; floor 10, top 110, draw shares 0 and 0, tip shares 60 and 40
abbrev pile : List ℕ → List ℕ → Body
pile desk0 desk1 = record { opening = 10 ∷ 110 ∷ 0 ∷ 0 ∷ 60 ∷ 40 ∷ []; rows = desk0 ∷ desk1 ∷ [] }

abbrev none : List ℕ
none = 0 ∷ 0 ∷ 0 ∷ 0 ∷ 0 ∷ 0 ∷ []

abbrev tipped : ℕ → List ℕ
tipped t = t ∷ 0 ∷ 0 ∷ 0 ∷ 0 ∷ 0 ∷ []

-- tipped 30, then gave 10 draw to desk 1; tipped 7, then drew 2
abbrev gave : List ℕ
gave = 30 ∷ 0 ∷ 0 ∷ 10 ∷ 0 ∷ 0 ∷ []

abbrev drew : List ℕ
drew = 7 ∷ 2 ∷ 0 ∷ 0 ∷ 0 ∷ 0 ∷ []

-- Three books of two piles, none of which is at least another.
abbrev a : Book
a = pile (tipped 30) none ∷ pile (tipped 5) none ∷ []

abbrev b : Book
b = pile gave none ∷ pile none (tipped 7) ∷ []

abbrev c : Book
c = pile none (tipped 20) ∷ pile (tipped 5) drew ∷ []

unfoldable open_join : Unit {0}
unfolding join_row join_body join book_of file joined_file join_answer
open_join = tt

commutative : join 2 2 a b ≡ join 2 2 b a
unfolding open_join open_loops open_rows
commutative = refl

associative : join 2 2 (join 2 2 a b) c ≡ join 2 2 a (join 2 2 b c)
unfolding open_join open_loops open_rows
associative = refl

idempotent : join 2 2 a a ≡ a
unfolding open_join open_loops open_rows
idempotent = refl

-- a book's numbers, one after the other
abbrev shown_rows : List (List ℕ) → List ℕ
shown_rows [] = []
shown_rows (r ∷ rs) = r ++ shown_rows rs

abbrev shown_book : Book → List ℕ
shown_book [] = []
shown_book (x ∷ xs) = x.opening ++ (shown_rows x.rows ++ shown_book xs)

-- files of one desk and three piles, of which it tipped so much and drew so much
abbrev alone : ℕ → ℕ → Body
alone tipped drawn = record { opening = 0 ∷ 100 ∷ 0 ∷ 100 ∷ []; rows = (tipped ∷ drawn ∷ 0 ∷ 0 ∷ []) ∷ [] }

abbrev mine : List ℕ
mine = file 1 3 suc (alone 10 0 ∷ alone 20 0 ∷ alone 20 5 ∷ [])

abbrev reloaded : List ℕ
reloaded = file 1 3 suc (alone 20 0 ∷ alone 10 0 ∷ alone 30 0 ∷ [])

abbrev wide_join : Book
wide_join = join 9 33 (repeated 33 first_tipped) (repeated 33 last_tipped)

-- what the three give
abbrev all : Book
all = pile gave (tipped 20) ∷ pile (tipped 5) drew ∷ []

-- the file of a book of two desks and two piles, under the pile numbers 1 and 2
abbrev filed : Book → List ℕ
filed x = file 2 2 suc x

abbrev table : List Case
table =
    case "6/12: two books joined have the later row of each desk, on both piles"
    (shown_book (join 2 2 a b))
    (shown_book (pile gave none ∷ pile (tipped 5) (tipped 7) ∷ []))
    ∷ case "6/12: three books joined, in either grouping"
    (shown_book (join 2 2 (join 2 2 a b) c) ++ shown_book (join 2 2 a (join 2 2 b c)))
    (shown_book all ++ shown_book all)
    ∷ case "6/12: nine desks and 33 piles joined, lawful again"
    (shown_book wide_join ++ first 33 (λ k. pile_answer 9 (pile_in 9 (body_in wide_join k))) ∷ [])
    (shown_book (repeated 33 (wide 9 (λ i. eqb i 0 or eqb i 8))) ++ 0 ∷ [])
    ∷ case "6/12: of two split rows the join has the first book's, so that such books do not commute"
    (shown_book (join 2 1 (pile gave none ∷ []) (pile (tipped 40) none ∷ [])) ++ shown_book (join 2 1 (pile (tipped 40) none ∷ []) (pile gave none ∷ [])))
    (shown_book (pile gave none ∷ pile (tipped 40) none ∷ []))
    ∷ case "6/12: the file of a book holds that book"
    (shown_book (book_of (filed a)) ++ filed (book_of (filed b)))
    (shown_book a ++ filed b)
    ∷ case "6/12: the files of the three books are readable and meet neither 30 nor 31 with each other, nor two of them joined with the third"
    (join_answer (filed a) (filed b) ∷ join_answer (filed b) (filed c) ∷ join_answer (filed a) (filed c) ∷ join_answer (taken (filed a) (filed b)) (filed c) ∷ [])
    (0 ∷ 0 ∷ 0 ∷ 0 ∷ [])
    ∷ case "6/12: taken as files, in either grouping, they are the file of the three joined"
    (taken (taken (filed a) (filed b)) (filed c) ++ taken (filed a) (taken (filed b) (filed c)))
    (filed all ++ filed all)
    ∷ case "6/12: F and G joined as files, in either order, are G, as where desk 0 takes F into G"
    (joined_file F G ++ joined_file G F)
    (G ++ after_take 0 G F)
    ∷ case "6/12: each take of the other's file meets 32, on pile 1 or 2, where joining the two meets 31, on pile 3, and no book would come out"
    (take_answer 0 mine reloaded ∷ take_answer 0 reloaded mine ∷ join_answer mine reloaded ∷ join_answer reloaded mine ∷ book_answer (taken mine reloaded) ∷ [])
    (32 ∷ 32 ∷ 31 ∷ 31 ∷ 3 ∷ [])
    ∷ []

pub cases_hold : AllHold table
unfolding open_join open_loops open_refusals open_numbers open_pile open_layout open_rows open_opening open_book open_take
cases_hold = all_hold table refl
