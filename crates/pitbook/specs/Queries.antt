-- What an exported query answers, and what it leaves in the numbers that the caller lends for its result.
-- Assumes nothing.
use Rattle.std.specs.Prelude.{ℕ, List}
use Rattle.rules.specs.Refusals.{done, Reply, refused, value}
use Rattle.rules.specs.Layout.{body_length, desks}
use Rattle.rules.specs.Book.{fetch_answer, body_start}

-- a reply as its number: the refusal's, or 0
abbrev pub answer_of : Reply → ℕ
answer_of (refused answer) = answer
answer_of (value x) = 0

-- and as what a lent number is then: the value, or what it was
abbrev pub value_of : Reply → ℕ → ℕ
value_of (refused answer) before = before
value_of (value x) before = x

-- the two lent numbers that tell the body of a pile: where it starts in the book, and its length; as they were where fetch is refused
unfoldable pub start_or : List ℕ → ℕ → ℕ → ℕ
start_or b number before = done (fetch_answer b number) (body_start b number) before

unfoldable pub length_or : List ℕ → ℕ → ℕ → ℕ
length_or b number before = done (fetch_answer b number) (body_length (desks b)) before
