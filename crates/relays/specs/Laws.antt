-- The order of relays (6/12): what is asked of books, and the laws of their join, for any number of desks and piles.
-- Assumes nothing.
use Rattle.std.specs.Prelude.{ℕ, ◌<◌, ◌≡◌, true, false, length}
use Rattle.rules.specs.Pile.{lawful, pile_answer}
use Rattle.rules.specs.Layout.{columns}
use Rattle.rules.specs.Rows.{at_least, is_split}
use Rattle.relays.specs.Join.{Body, Book, desk_row, body_in, row, numbers, pile_in, order, join}

-- An opening and n rows, each of 2(n + 1) numbers, by which no rights are negative: that is what document 01 calls a lawful pile. The numbers have no limits.
pub record LawfulBody (n : ℕ) (x : Body) : Type 0 where
  pub opening : length x.opening ≡ columns n
  pub desks : length x.rows ≡ n
  pub rows : (i : ℕ) → i < n → length (desk_row x i) ≡ columns n
  pub none_negative : lawful n (pile_in n x) ≡ true

pub record LawfulBook (n p : ℕ) (a : Book) : Type 0 where
  pub piles : length a ≡ p
  pub bodies : (k : ℕ) → k < p → LawfulBody n (body_in a k)

abbrev pub OneOpening : ℕ → Book → Book → Type 0
OneOpening p a b = (k : ℕ) → k < p → (body_in a k).opening ≡ (body_in b k).opening

-- no desk's rows are split, on any pile
abbrev pub NoSplit : ℕ → ℕ → Book → Book → Type 0
NoSplit n p a b = (k i : ℕ) → k < p → i < n → is_split (order n (row a k i) (row b k i)) ≡ false

-- The order of books of one opening: every tally of the first is at least that of the second.
pub record Above (n p : ℕ) (a b : Book) : Type 0 where
  pub rows : (k i : ℕ) → k < p → i < n → at_least (columns n) (numbers (row a k i)) (numbers (row b k i)) ≡ true

-- It is a partial order of lawful books of one opening.
pub record PartialOrder (n p : ℕ) : Type 0 where
  pub reflexive : (a : Book) → Above n p a a
  pub transitive : (a b c : Book) → Above n p a b → Above n p b c → Above n p a c
  pub antisymmetric : (a b : Book) → LawfulBook n p a → LawfulBook n p b → OneOpening p a b → Above n p a b → Above n p b a → a ≡ b

abbrev pub AboveOrders : Type 0
AboveOrders = (n p : ℕ) → PartialOrder n p

-- One join: it meets no split, what comes out is lawful and of the same opening, and it is the least upper bound of the two.
pub record Joins (n p : ℕ) (a b : Book) : Type 0 where
  pub no_split : NoSplit n p a b
  pub lawful : LawfulBook n p (join n p a b)
  pub opening : OneOpening p (join n p a b) a
  pub above_first : Above n p (join n p a b) a
  pub above_second : Above n p (join n p a b) b
  pub least : (x : Book) → Above n p x a → Above n p x b → Above n p x (join n p a b)

-- The laws, and each join that they speak of.
pub record JoinLaws (n p : ℕ) (a b c : Book) : Type 0 where
  pub commutative : join n p a b ≡ join n p b a
  pub associative : join n p (join n p a b) c ≡ join n p a (join n p b c)
  pub idempotent : join n p a a ≡ a
  pub first_second : Joins n p a b
  pub second_first : Joins n p b a
  pub second_third : Joins n p b c
  pub first_itself : Joins n p a a
  pub two_with_third : Joins n p (join n p a b) c
  pub first_with_two : Joins n p a (join n p b c)

-- lawful books of one opening with no split between them
pub record Related (n p : ℕ) (a b : Book) : Type 0 where
  pub first : LawfulBook n p a
  pub second : LawfulBook n p b
  pub opening : OneOpening p a b
  pub no_split : NoSplit n p a b

abbrev pub OrderOfRelays : Type 0
OrderOfRelays = (n p : ℕ) (a b c : Book) → Related n p a b → Related n p b c → Related n p a c → JoinLaws n p a b c

-- Every body passes document 01's whole check: 5 and 6, which have the limits of openings and tallies, and 7.
abbrev pub PassesCheck : ℕ → ℕ → Book → Type 0
PassesCheck n p a = (k : ℕ) → k < p → pile_answer n (pile_in n (body_in a k)) ≡ 0

-- 5 and 6 carry over beside 7: where lawful books of one opening with no split pass the whole check, so does their join.
abbrev pub ChecksCarryOver : Type 0
ChecksCarryOver = (n p : ℕ) (a b : Book) → Related n p a b → PassesCheck n p a → PassesCheck n p b → PassesCheck n p (join n p a b)
