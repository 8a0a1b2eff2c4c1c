-- "Refusals by place" of document 01, line by line, on a book of two desks and two piles: each line's numbers, each before all that come after it.
-- A row is a list of answers, of calls in which ever fewer things are wrong.
-- Assumes nothing.
use Prim.Native.Nat.{ℕ, ◌+◌, ◌*◌}
use mathlib.Core.Path.{refl}
use mathlib.Core.List.{List, [], ◌∷◌, ◌++◌}
use lib.ListN.{take, drop, set}
use lib.Seq.{sets}
use Rattle.rules.specs.Loops.{list}
use Rattle.rules.specs.Numbers.{bytes, encode}
use Rattle.rules.specs.Pile.{draw, tip, tally_limit}
use Rattle.rules.specs.Acts.{spend, give}
use Rattle.rules.specs.Rows.{compared, order_reply, later_row}
use Rattle.rules.specs.Opening.{buffer_length, opening_answer, opened, after_opening}
use Rattle.rules.specs.Book.{book_answer, contents_answer, after_contents, fetch_answer, body_part, body_start, tonnage_reply, rights_reply, act_answer}
use Rattle.rules.specs.Record.{Record, zero_record, record_answer, record_tonnage_reply, record_rights_reply, record_act_answer, fetched, store_answer}
use Rattle.rules.specs.Bounds.{bound_reply, record_bound_reply}
use Rattle.rules.specs.Take.{take_answer, after_take}
use Rattle.rules.proofs.Cases.Table.{Case, case, AllHold, all_hold, shown, takes, act_on, enter, open_loops, open_refusals, open_numbers, open_pile, open_acts, open_layout, open_rows, open_opening, open_book, open_record, open_take, open_bounds}
use Rattle.rules.proofs.Cases.Letters.{F}

-- H: 2 desks; pile 5 with floor 10, top 50, draw shares 4, 6, tip shares 20, 10; pile 9 with floor 0, top 8, draw shares 1, 2, tip shares 3, 2.
-- Its bodies start at 16 and 88, and it has 160 bytes.
abbrev pile5 : List ℕ
pile5 = 5 ∷ 10 ∷ 50 ∷ 4 ∷ 6 ∷ 20 ∷ 10 ∷ []

abbrev pile9 : List ℕ
pile9 = 9 ∷ 0 ∷ 8 ∷ 1 ∷ 2 ∷ 3 ∷ 2 ∷ []

abbrev H : List ℕ
H = opened 2 2 (pile5 ++ pile9)

-- H with another byte, or another number in body 1, whose rows start at 88, 112 and 136
abbrev byte : ℕ → ℕ → List ℕ
byte at x = set H at x

abbrev cell : ℕ → ℕ → ℕ → List ℕ → List ℕ
cell row column x b = sets b (88 + (row * 24 + column * 4)) (bytes 4 x)

-- of pile 9 a number of the opening, a tally too high, a give of desk 1 to itself of either side, more drawn than there were rights
abbrev opening_wrong : List ℕ → List ℕ
opening_wrong = cell 0 1 7

abbrev tally_over : List ℕ → List ℕ
tally_over = cell 1 0 (1 + tally_limit)

abbrev give_to_itself : List ℕ → List ℕ
give_to_itself = cell 2 3 1

abbrev give_tip_to_itself : List ℕ → List ℕ
give_tip_to_itself = cell 2 5 1

abbrev rights_negative : List ℕ → List ℕ
rights_negative = cell 1 1 2

-- and the same of a book in which the length or the second pile number is wrong too
abbrev wrong_books : List (List ℕ)
wrong_books =
    take 3 H
    ∷ take 159 (byte 0 2)
    ∷ take 159 (byte 10 5)
    ∷ byte 10 5
    ∷ opening_wrong (tally_over H)
    ∷ tally_over (rights_negative H)
    ∷ rights_negative H
    ∷ []

abbrev answers : {A : Type 0} → (A → ℕ) → List A → List ℕ
answers f [] = []
answers f (x ∷ xs) = f x ∷ answers f xs

-- pile 9's record, and that record with another number
abbrev R : Record
R = fetched H 9

abbrev with_n : ℕ → Record → Record
with_n n r = record { n = n; floor = r.floor; top = r.top; shares = r.shares; tallies = r.tallies }

abbrev with_share : ℕ → ℕ → Record → Record
with_share at x r = record { n = r.n; floor = r.floor; top = r.top; shares = set r.shares at x; tallies = r.tallies }

abbrev with_tally : ℕ → ℕ → Record → Record
with_tally at x r = record { n = r.n; floor = r.floor; top = r.top; shares = r.shares; tallies = set r.tallies at x }

-- both tallies of desk 0 on pile 9 at the limit, which leaves its rights as they were
abbrev at_limit : List ℕ
at_limit = cell 1 0 tally_limit (cell 1 1 tally_limit H)

-- a row of 2 desks, one that is later, and one that is split from it
abbrev early : List ℕ
early = 1 ∷ 2 ∷ 3 ∷ 4 ∷ 5 ∷ 6 ∷ []

abbrev later : List ℕ
later = 1 ∷ 2 ∷ 3 ∷ 4 ∷ 5 ∷ 7 ∷ []

abbrev split_off : List ℕ
split_off = 1 ∷ 2 ∷ 3 ∷ 5 ∷ 5 ∷ 5 ∷ []

abbrev pub table : List Case
table =
    case "Book bytes, then each body: 1 to 7, the first in table order" (book_answer H ∷ answers book_answer wrong_books) (0 ∷ 1 ∷ 2 ∷ 3 ∷ 4 ∷ 5 ∷ 6 ∷ 7 ∷ [])
    ∷ case "Book bytes: version, n, p and the fourth byte; pile number 0, a position"
    (answers book_answer (byte 0 2 ∷ byte 1 0 ∷ byte 1 9 ∷ byte 2 0 ∷ byte 2 33 ∷ byte 3 1 ∷ byte 4 0 ∷ byte 12 16 ∷ []))
    (2 ∷ 2 ∷ 2 ∷ 2 ∷ 2 ∷ 2 ∷ 4 ∷ 4 ∷ [])
    ∷ case "Each body, in file order: the first pile's 7 before the second's 5"
    (answers book_answer (give_to_itself H ∷ give_tip_to_itself H ∷ opening_wrong (set H 44 5) ∷ [])) (6 ∷ 6 ∷ 7 ∷ [])
    ∷ case "Pile record alone: 2, 5, 6, 7; an unused share is 5, an unused place 6"
    (answers record_answer
    (with_n 0 R
    ∷ with_n 9 (with_share 7 1 R)
    ∷ with_share 7 1 (with_tally 143 1 R)
    ∷ with_share 0 2 R
    ∷ with_tally 143 1 (with_tally 1 2 R)
    ∷ with_tally 9 1 R
    ∷ with_tally 1 2 R
    ∷ R
    ∷ []))
    (2 ∷ 2 ∷ 5 ∷ 5 ∷ 6 ∷ 6 ∷ 7 ∷ 0 ∷ [])
    ∷ case "Opening: 2, 3, 4, 5 by pile, 8; bytes past the book stay"
    (opening_answer 0 2 [] 0
    ∷ opening_answer 2 33 [] 0
    ∷ opening_answer 2 2 (pile9 ++ pile5 ++ (0 ∷ [])) 0
    ∷ opening_answer 2 2 (pile9 ++ (5 ∷ 1 ∷ 0 ∷ 0 ∷ 0 ∷ 0 ∷ 0 ∷ [])) 0
    ∷ opening_answer 2 1 (65536 ∷ 0 ∷ 0 ∷ 0 ∷ 0 ∷ 0 ∷ 0 ∷ []) 0
    ∷ opening_answer 2 2 (pile5 ++ (9 ∷ 0 ∷ 8 ∷ 1 ∷ 2 ∷ 3 ∷ 1 ∷ [])) 0
    ∷ opening_answer 2 2 (pile5 ++ pile9) 159
    ∷ opening_answer 2 2 (pile5 ++ pile9) 160
    ∷ drop 159 (after_opening 2 2 (pile5 ++ pile9) (list 163 (λ k. k))))
    (2 ∷ 2 ∷ 3 ∷ 4 ∷ 4 ∷ 5 ∷ 8 ∷ 0 ∷ 0 ∷ 160 ∷ 161 ∷ 162 ∷ [])
    ∷ case "The length of a book to open; 0 where there is none"
    (buffer_length 1 1 ∷ buffer_length 8 32 ∷ buffer_length 0 1 ∷ buffer_length 9 1 ∷ buffer_length 1 0 ∷ buffer_length 1 33 ∷ [])
    (42 ∷ 20932 ∷ 0 ∷ 0 ∷ 0 ∷ 0 ∷ [])
    ∷ case "Lent output: contents shorter than the piles meet 8, the book's own before it"
    (contents_answer (take 159 H) 0 ∷ contents_answer H 1 ∷ contents_answer H 2 ∷ [])
    (3 ∷ 8 ∷ 0 ∷ [])
    ∷ case "Contents: an entry is its number and position; entries past p stay, all where it is refused"
    (after_contents (λ number position. number * 1000 + position) H (1 ∷ 2 ∷ 3 ∷ []) ++ after_contents (λ number position. number) H (1 ∷ []))
    (5016 ∷ 9088 ∷ 3 ∷ 1 ∷ [])
    ∷ case "Act on a book: its own, 11, 10, 12, 13, 14, 15"
    (answers (act_answer 2 (act_on 6 (give draw 2) 0)) wrong_books
    ++ act_answer 2 (act_on 6 (give draw 2) 0) H
    ∷ act_answer 1 (act_on 6 (give draw 2) 0) H
    ∷ act_answer 1 (act_on 9 (give draw 2) 0) H
    ∷ act_answer 1 (act_on 9 (give draw 1) 0) H
    ∷ act_answer 1 (act_on 9 (give draw 0) 0) H
    ∷ act_answer 1 (act_on 9 (give draw 0) 1001) H
    ∷ act_answer 0 (act_on 9 (spend tip) 4) at_limit
    ∷ act_answer 0 (act_on 9 (spend tip) 3) at_limit
    ∷ act_answer 0 (act_on 9 (spend tip) 3) H
    ∷ [])
    (1 ∷ 2 ∷ 3 ∷ 4 ∷ 5 ∷ 6 ∷ 7 ∷ 11 ∷ 10 ∷ 12 ∷ 12 ∷ 13 ∷ 13 ∷ 14 ∷ 15 ∷ 0 ∷ [])
    ∷ case "Act on a record: its own, 11, 12, 13, 14"
    (answers (record_act_answer 2 (give draw 2) 0) (with_n 0 R ∷ with_share 7 1 R ∷ with_tally 143 1 R ∷ with_tally 1 2 R ∷ R ∷ [])
    ++ answers (λ t. record_act_answer 1 (give draw 1) t R) (0 ∷ 1 ∷ [])
    ++ answers (λ t. record_act_answer 1 (give draw 0) t R) (0 ∷ 1000 ∷ 2 ∷ []))
    (2 ∷ 5 ∷ 6 ∷ 7 ∷ 11 ∷ 12 ∷ 12 ∷ 13 ∷ 14 ∷ 0 ∷ [])
    ∷ case "Rights query: the book's own, 11, 10; the record's own, 11; a refusal is the number alone"
    (shown (rights_reply draw 2 (take 159 H) 6)
    ++ shown (rights_reply draw 2 H 6)
    ++ shown (rights_reply draw 1 H 6)
    ++ shown (rights_reply draw 1 H 9)
    ++ shown (record_rights_reply tip 2 (with_n 9 R))
    ++ shown (record_rights_reply tip 2 R)
    ++ shown (record_rights_reply tip 1 R))
    (3 ∷ 11 ∷ 10 ∷ 0 ∷ 2 ∷ 2 ∷ 11 ∷ 0 ∷ 2 ∷ [])
    ∷ case "Least and most, refused as rights are: the book's own, 11, 10; the record's own, 11"
    (shown (bound_reply draw 2 (take 159 H) 6)
    ++ shown (bound_reply tip 2 H 6)
    ++ shown (bound_reply draw 1 H 6)
    ++ shown (bound_reply draw 0 H 5)
    ++ shown (bound_reply tip 0 H 5)
    ++ shown (record_bound_reply draw 2 (with_n 9 R))
    ++ shown (record_bound_reply tip 2 R)
    ++ shown (record_bound_reply draw 1 R)
    ++ shown (record_bound_reply tip 1 R))
    (3 ∷ 11 ∷ 10 ∷ 0 ∷ 14 ∷ 0 ∷ 30 ∷ 2 ∷ 11 ∷ 0 ∷ 2 ∷ 0 ∷ 6 ∷ [])
    ∷ case "Tonnage and fetch: the book's own, 10; the part is empty where fetch refuses"
    (shown (tonnage_reply (take 159 H) 6)
    ++ shown (tonnage_reply H 6)
    ++ shown (tonnage_reply H 9)
    ++ shown (record_tonnage_reply (with_n 9 R))
    ++ fetch_answer (take 159 H) 6
    ∷ fetch_answer H 6
    ∷ fetch_answer H 9
    ∷ body_start H 6
    ∷ body_start H 9
    ∷ body_part H 6
    ++ body_part H 9)
    (3 ∷ 10 ∷ 0 ∷ 3 ∷ 2 ∷ 3 ∷ 10 ∷ 0 ∷ 0 ∷ 88 ∷ drop 88 H)
    ∷ case "Store: the book's own, 10, the record's own, 30 for n and for the opening"
    (store_answer (take 159 H) 6 zero_record
    ∷ store_answer H 6 zero_record
    ∷ store_answer H 9 zero_record
    ∷ store_answer H 9 (fetched F 7)
    ∷ store_answer H 9 (fetched H 5)
    ∷ store_answer H 9 (with_tally 0 1 R)
    ∷ [])
    (3 ∷ 10 ∷ 2 ∷ 30 ∷ 30 ∷ 0 ∷ [])
    ∷ case "Take: the own book's before the copy's, which are 21 to 27, then 11, by the taker's n"
    (answers (λ own. take_answer 2 own (take 3 F)) wrong_books ++ answers (take_answer 2 H) wrong_books ++ take_answer 2 H F ∷ [])
    (1 ∷ 2 ∷ 3 ∷ 4 ∷ 5 ∷ 6 ∷ 7 ∷ 21 ∷ 22 ∷ 23 ∷ 24 ∷ 25 ∷ 26 ∷ 27 ∷ 11 ∷ [])
    ∷ case "Take: 30 where n, how many piles, a pile number or an opening differs"
    (take_answer 0 (opened 1 1 (5 ∷ 0 ∷ 2 ∷ 1 ∷ 1 ∷ [])) (opened 2 1 (5 ∷ 0 ∷ 2 ∷ 1 ∷ 0 ∷ 1 ∷ 0 ∷ []))
    ∷ take_answer 0 (opened 2 1 pile5) H
    ∷ take_answer 0 H (opened 2 2 (pile5 ++ set pile9 0 10))
    ∷ take_answer 0 H (opened 2 2 (pile5 ++ (9 ∷ 0 ∷ 8 ∷ 2 ∷ 1 ∷ 3 ∷ 2 ∷ [])))
    ∷ take_answer 0 H (opened 2 2 (pile5 ++ (9 ∷ 0 ∷ 8 ∷ 1 ∷ 2 ∷ 2 ∷ 3 ∷ [])))
    ∷ take_answer 0 H (opened 2 2 (pile5 ++ (9 ∷ 1 ∷ 9 ∷ 1 ∷ 2 ∷ 3 ∷ 2 ∷ [])))
    ∷ take_answer 0 H H
    ∷ [])
    (30 ∷ 30 ∷ 30 ∷ 30 ∷ 30 ∷ 30 ∷ 0 ∷ [])
    -- in each of the first two calls one row is split and another later at the taker's desk: that of the first pile counts
    ∷ case "Take, by pile, then by desk: 31 or 32, and the own book stays; a split row of the own desk is 31"
    (take_answer 0 (enter 1 5 (spend tip) 1 H) (enter 1 5 (spend draw) 1 (enter 0 9 (spend tip) 1 H))
    ∷ take_answer 1 (enter 0 9 (spend tip) 1 H) (enter 0 9 (spend draw) 1 (enter 1 5 (spend tip) 1 H))
    ∷ take_answer 1 (enter 1 5 (spend tip) 1 (enter 0 5 (spend tip) 1 H)) (enter 1 5 (spend tip) 2 (enter 0 5 (spend draw) 1 H))
    ∷ take_answer 0 (enter 1 5 (spend tip) 1 (enter 0 5 (spend tip) 1 H)) (enter 1 5 (spend draw) 1 (enter 0 5 (spend tip) 2 H))
    ∷ take_answer 1 (enter 1 9 (spend tip) 1 H) (enter 1 9 (spend draw) 1 H)
    ∷ after_take 1 (enter 1 9 (spend tip) 1 H) (enter 1 9 (spend draw) 1 (enter 0 5 (spend tip) 1 H)))
    (31 ∷ 32 ∷ 31 ∷ 32 ∷ 31 ∷ enter 1 9 (spend tip) 1 H)
    ∷ case "An accepted take has the later row of each pile and desk, and reports how many changed"
    (takes 1 (enter 1 9 (spend draw) 1 H) (enter 0 9 (give tip 1) 2 (enter 0 5 (spend tip) 2 H)))
    (0 ∷ 2 ∷ enter 0 9 (give tip 1) 2 (enter 0 5 (spend tip) 2 (enter 1 9 (spend draw) 1 H)))
    ∷ case "Comparing rows: alike, mine later, the copy's later, split; 3 for rows of two lengths or of no book's length"
    (shown (order_reply (compared (encode early) (encode early)))
    ++ shown (order_reply (compared (encode later) (encode early)))
    ++ shown (order_reply (compared (encode early) (encode later)))
    ++ shown (order_reply (compared (encode later) (encode split_off)))
    ++ shown (order_reply (compared (encode early) (encode (early ++ (0 ∷ 0 ∷ [])))))
    ++ shown (order_reply (compared (encode (list 20 (λ c. c))) (encode (list 20 (λ c. c)))))
    ++ shown (order_reply (compared (encode (0 ∷ 0 ∷ [])) (encode (0 ∷ 0 ∷ [])))))
    (0 ∷ 1 ∷ 0 ∷ 2 ∷ 0 ∷ 3 ∷ 0 ∷ 4 ∷ 3 ∷ 3 ∷ 3 ∷ [])
    ∷ case "The later row: whichever is later; empty where split, of two lengths, or of no book's length"
    (later_row (encode early) (encode later)
    ++ later_row (encode later) (encode early)
    ++ later_row (encode early) (encode early)
    ++ later_row (encode early) (encode split_off)
    ++ later_row (encode early) (encode (early ++ (0 ∷ 0 ∷ [])))
    ++ later_row (encode (list 20 (λ c. c))) (encode (list 20 (λ c. c)))
    ++ later_row (encode (0 ∷ 0 ∷ [])) (encode (0 ∷ 0 ∷ []))
    ++ later_row (encode (list 18 (λ c. c))) (encode (list 18 (λ c. c))))
    (encode later ++ encode later ++ encode early ++ encode (list 18 (λ c. c)))
    ∷ []

pub places_hold : AllHold table
unfolding open_loops open_refusals open_numbers open_pile open_acts open_layout open_rows open_opening open_book open_record open_take open_bounds
places_hold = all_hold table refl
