-- Positions by a head that may be any four bytes, as code computes them, and the writing of a front piece by piece.
-- Assumes nothing.
use Rattle.std.specs.Prelude.{ℕ, ◌+◌, ◌*◌, cond, List, ◌++◌, length, ltb}
use Rattle.std.proofs.lemmas.List.Edits.{sets}
use Rattle.rules.specs.Refusals.{◌when◌, done}
use Rattle.rules.specs.Numbers.{number, bytes}
use Rattle.rules.specs.Layout as rules
use Rattle.rules.specs.Layout.{head_of, entry_at, front_length, head_bytes}
use Rattle.rules.specs.Opening.{body_size}
use Rattle.layout.specs.declared.head.Head.{Head}

-- the struct as the head of the rules
abbrev pub as_head : Head → rules.Head
as_head h = record { version = h.version; desks = h.desks; piles = h.piles; fourth = h.fourth }

-- the head of a book; all zeros where there are fewer than 4 bytes
unfoldable pub head_in : List ℕ → rules.Head
head_in b = cond (ltb (length b) 4) (record { version = 0; desks = 0; piles = 0; fourth = 0 }) (head_of b)

-- Where body k starts. For 1 to 8 desks it is `body_at`; of desks that no book has a body has no length.
unfoldable pub body_position : rules.Head → ℕ → ℕ
body_position h k = front_length h + k * body_size h.desks

-- what an entry of the contents says: a pile number in its first 2 bytes, a position in its last 4
unfoldable pub entry_number : List ℕ → ℕ
entry_number entry = number 2 entry 0

unfoldable pub entry_position : List ℕ → ℕ
entry_position entry = number 4 entry 2

-- a head at a buffer's start, and entry k with a pile's number: 8 where it has no room; every byte outside stays
unfoldable pub put_head_answer : List ℕ → ℕ
put_head_answer b = 8 when ltb (length b) 4

unfoldable pub after_put_head : rules.Head → List ℕ → List ℕ
after_put_head h b = done (put_head_answer b) (sets b 0 (head_bytes h)) b

unfoldable pub put_entry_answer : ℕ → List ℕ → ℕ
put_entry_answer k b = 8 when ltb (length b) (entry_at k + 6)

unfoldable pub after_put_entry : rules.Head → (k number : ℕ) → List ℕ → List ℕ
after_put_entry h k number b = done (put_entry_answer k b) (sets b (entry_at k) (bytes 2 number ++ bytes 4 (body_position h k))) b
