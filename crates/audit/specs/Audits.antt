-- What is promised of bodies that stand back to back: their first refusal; and of one of them: a desk's rights, the tonnage, and its account.
-- Assumes nothing.
use Rattle.std.specs.Prelude.{ℕ, ◌+◌, ◌*◌, Bool, cond, not, List, length, replicate, leb, ltb, eqb}
use Rattle.rules.specs.Loops.{◌and◌, between, list}
use Rattle.rules.specs.Refusals.{◌when◌, ◌or_else◌, first, done}
use Rattle.rules.specs.Pile.{Side, Pile, rights, tonnage, pile_answer}
use Rattle.rules.specs.Layout.{desk_limit, pile_limit, body_length, body_view}
use Rattle.rules.specs.Record.{padded}

-- body k of those that start at a position
abbrev pub body_after : ℕ → List ℕ → ℕ → ℕ → Pile
body_after n b from k = body_view n b (from + k * body_length n)

-- 2 for sizes, 3 for another length than that of p bodies from a position on, and then the first refusal of a body
unfoldable pub shape_answer : ℕ → ℕ → ℕ → ℕ → ℕ
shape_answer n p from size =
    2 when not (between 1 desk_limit n and leb p pile_limit)
    or_else 3 when not (eqb size (from + p * body_length n))

unfoldable pub bodies_answer : ℕ → ℕ → ℕ → List ℕ → ℕ
bodies_answer n p from b = shape_answer n p from (length b) or_else first p (λ k. pile_answer n (body_after n b from k))

-- is a body there, from a position on, among so many bytes
unfoldable pub body_there : ℕ → ℕ → ℕ → Bool
body_there n at size = between 1 desk_limit n and leb (at + body_length n) size

-- What a desk's rights and the tonnage come to in the body that starts at a position, lawful or not: 0 where there is no such body or desk, and 0 too where
-- more is taken off than there is.
unfoldable pub rights_in : Side → ℕ → ℕ → List ℕ → ℕ → ℕ
rights_in s n at b i = cond (body_there n at (length b) and ltb i n) (rights n (body_view n b at) s i) 0

unfoldable pub tonnage_in : ℕ → ℕ → List ℕ → ℕ
tonnage_in n at b = cond (body_there n at (length b)) (tonnage n (body_view n b at)) 0

-- The account of the body that starts at a position: 2 for n, 3 where no body is there, then 5, 6 and 7; floor, top, the tonnage, and for 8 places the rights
-- of the desk there, those past n being 0. All is 0 where the body is refused.
unfoldable pub account_answer : ℕ → ℕ → List ℕ → ℕ
account_answer n at b =
    2 when not (between 1 desk_limit n)
    or_else 3 when ltb (length b) (at + body_length n)
    or_else pile_answer n (body_view n b at)

unfoldable pub account_number : (Pile → ℕ) → ℕ → ℕ → List ℕ → ℕ
account_number f n at b = done (account_answer n at b) (f (body_view n b at)) 0

unfoldable pub account_rights : Side → ℕ → ℕ → List ℕ → List ℕ
account_rights s n at b =
    done (account_answer n at b) (list desk_limit (padded n (rights n (body_view n b at) s))) (replicate desk_limit 0)
