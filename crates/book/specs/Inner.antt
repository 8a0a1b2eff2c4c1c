-- What the functions that read a book ask of its bytes: that a part lies within them, or that they have a book's size.
-- Assumes nothing.
use Rattle.std.specs.Prelude.{ℕ, ◌+◌, ◌≤◌, ◌<◌, ◌≡◌, List, length, eqb}
use Rattle.rules.specs.Loops.{index}
use Rattle.rules.specs.Pile.{pile_answer}
use Rattle.rules.specs.Layout.{Sizes, Head, entry_at, book_length, body_view, desks, pile_number}
use Rattle.layout.specs.Inner.{BodyWithin}

-- the entries of p piles
pub record EntriesWithin (p : ℕ) (b : List ℕ) : Type 0 where
  pub within : (k : ℕ) → k < p → entry_at k + 6 ≤ length b

-- where a pile number stands in the contents of p piles; p where it is absent
abbrev pub place_among : ℕ → List ℕ → ℕ → ℕ
place_among p b number = index p (λ k. eqb (pile_number b k) number)

-- the contents that a head says
pub record Contents (h : Head) (b : List ℕ) : Type 0 where
  pub sizes : Sizes h.desks h.piles
  pub entries : EntriesWithin h.piles b

-- a whole book, and nothing behind it
pub record BookSized (h : Head) (b : List ℕ) : Type 0 where
  pub sizes : Sizes h.desks h.piles
  pub sized : length b ≡ book_length h

-- a body that passes its own check, from a position on, in a book that has a desk i
pub record SoundBody (i : ℕ) (b : List ℕ) (at : ℕ) : Type 0 where
  pub desk : i < desks b
  pub body : BodyWithin (desks b) at b
  pub passes : pile_answer (desks b) (body_view (desks b) b at) ≡ 0

-- and of n desks, as it was told
pub record SoughtBody (i : ℕ) (b : List ℕ) (n at : ℕ) : Type 0 where
  pub sound : SoundBody i b at
  pub count : n ≡ desks b
