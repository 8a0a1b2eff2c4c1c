-- What the functions that open a book say of the list that it is opened from: no promise to a caller is made in these words.
-- Assumes nothing.
use Rattle.std.specs.Prelude.{ℕ, ◌≤◌, ◌≡◌, true, not, List, length}
use Rattle.rules.specs.Refusals.{◌when◌, first}
use Rattle.rules.specs.Pile.{Pile, opening_lawful}
use Rattle.rules.specs.Layout.{Head, head_for, front_length, book_length}
use Rattle.rules.specs.Opening.{rising, given, given_pile}
use Rattle.opening.specs.declared.given.Given.{Given}
use Rattle.opening.specs.declared.given.GivenPile.{GivenPile}

-- the number of pile k of the list, its opening, and the head of the book
abbrev pub number_in : Given → ℕ → ℕ
number_in g k = given g.desks g.numbers.now k 0

abbrev pub pile_in : Given → ℕ → Pile
pile_in g = given_pile g.desks g.numbers.now

abbrev pub book_head : Given → Head
book_head g = head_for g.desks g.piles

-- the number of a pile taken from the list, and its opening
abbrev pub own_number : GivenPile → ℕ
own_number p = given p.desks p.numbers.now 0 0

abbrev pub own_pile : GivenPile → Pile
own_pile p = given_pile p.desks p.numbers.now 0

-- the list's sizes and numbers are those that were handed over
pub record IsGiven (g : Given) (n p : ℕ) (l : List ℕ) : Type 0 where
  pub desks_are : g.desks ≡ n
  pub piles_are : g.piles ≡ p
  pub numbers_are : g.numbers.now ≡ l

-- a front can be written of it: there is room, and its numbers rise
pub record FrontReady (g : Given) (out : List ℕ) : Type 0 where
  pub room : front_length (book_head g) ≤ length out
  pub rises : rising g.piles (number_in g) ≡ true

-- and bodies: there is room, and its openings are lawful
pub record BodiesReady (g : Given) (out : List ℕ) : Type 0 where
  pub room : book_length (book_head g) ≤ length out
  pub lawful : first g.piles (λ k. 5 when not (opening_lawful g.desks (pile_in g k))) ≡ 0
