-- What can be asked of a book and done to it at one desk: check, contents, body, rights, tonnage, the four acts.
-- A book is the list of its bytes.
-- Assumes nothing.
use Rattle.std.specs.Prelude.{ℕ, suc, ◌+◌, Bool, not, List, [], ◌++◌, length, drop, ltb, eqb}
use Rattle.std.proofs.lemmas.List.Edits.{sets}
use Rattle.rules.specs.Loops.{◌and◌, every, index, list}
use Rattle.rules.specs.Refusals.{◌when◌, ◌or_else◌, first, done, Reply, reply}
use Rattle.rules.specs.Numbers.{bytes, part}
use Rattle.rules.specs.Pile.{Side, pile_answer, rights, tonnage}
use Rattle.rules.specs.Acts.{Act, tally, act_refusal}
use Rattle.rules.specs.Layout.{Head, head_of, body_length, body_at, book_length, cell_at, act_column, desks, piles, pile_number, position, pile_of, sizes_in_range}
use Rattle.rules.specs.Opening.{rising}

-- version 1, n, p, 0
unfoldable pub head_sound : Head → Bool
head_sound h = eqb h.version 1 and sizes_in_range h.desks h.piles and eqb h.fourth 0

-- the pile numbers rise, and each body is where its head says
unfoldable pub contents_sound : Head → List ℕ → Bool
contents_sound h b = rising h.piles (pile_number b) and every h.piles (λ k. eqb (position b k) (body_at h k))

-- "Book bytes", then "Each body, in file order"
unfoldable pub book_answer : List ℕ → ℕ
book_answer b =
    1 when ltb (length b) 4
    or_else 2 when not (head_sound (head_of b))
    or_else 3 when not (eqb (length b) (book_length (head_of b)))
    or_else 4 when not (contents_sound (head_of b) b)
    or_else first (piles b) (λ k. pile_answer (desks b) (pile_of b k))

-- where a pile number stands in the contents; p where it is absent
unfoldable pub place : List ℕ → ℕ → ℕ
place b number = index (piles b) (λ k. eqb (pile_number b k) number)

unfoldable pub absent : List ℕ → ℕ → Bool
absent b number = eqb (place b number) (piles b)

-- The contents, filled into a lent list of entries made of number and position; entries past p stay.
unfoldable pub contents_answer : List ℕ → ℕ → ℕ
contents_answer b room = book_answer b or_else 8 when ltb room (piles b)

unfoldable pub after_contents : {Entry : Type 0} → (ℕ → ℕ → Entry) → List ℕ → List Entry → List Entry
after_contents entry b out =
    done (contents_answer b (length out)) (list (piles b) (λ k. entry (pile_number b k) (position b k)) ++ drop (piles b) out) out

-- "Tonnage, fetch, store": the book's own, then 10
unfoldable pub fetch_answer : List ℕ → ℕ → ℕ
fetch_answer b number = book_answer b or_else 10 when absent b number

-- the body found for a pile number, as a part of the book; empty exactly where fetch is refused
unfoldable pub body_part : List ℕ → ℕ → List ℕ
body_part b number = done (fetch_answer b number) (part (position b (place b number)) (body_length (desks b)) b) []

-- where that part starts in the book: at the position that the contents has; the empty part of a refused call starts where the book does
unfoldable pub body_start : List ℕ → ℕ → ℕ
body_start b number = done (fetch_answer b number) (position b (place b number)) 0

unfoldable pub tonnage_reply : List ℕ → ℕ → Reply
tonnage_reply b number = reply (fetch_answer b number) (tonnage (desks b) (pile_of b (place b number)))

-- "Act or rights query": the book's own, then 11 and 10
unfoldable pub desk_answer : ℕ → List ℕ → ℕ → ℕ
desk_answer i b number = book_answer b or_else 11 when not (ltb i (desks b)) or_else 10 when absent b number

unfoldable pub rights_reply : Side → ℕ → List ℕ → ℕ → Reply
rights_reply s i b number = reply (desk_answer i b number) (rights (desks b) (pile_of b (place b number)) s i)

-- an act of desk i, and the book after it: the amount is added to that act's one tally
unfoldable pub act_answer : ℕ → Act → List ℕ → ℕ
act_answer i a b =
    desk_answer i b a.pile or_else act_refusal (desks b) (pile_of b (place b a.pile)) i a.kind a.amount

unfoldable pub tally_at : ℕ → Act → List ℕ → ℕ
tally_at i a b =
    body_at (head_of b) (place b a.pile) + cell_at (desks b) (suc i) (act_column (desks b) a.kind)

unfoldable pub after_act : ℕ → Act → List ℕ → List ℕ
after_act i a b =
    done (act_answer i a b)
    (sets b (tally_at i a b) (bytes 4 (tally (pile_of b (place b a.pile)) i a.kind + a.amount))) b
