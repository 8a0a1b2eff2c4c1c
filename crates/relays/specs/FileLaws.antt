-- The order of relays on bytes (6/12): an accepted take is the join, files have the laws of books, and takes have them too.
-- Assumes nothing.
use Rattle.std.specs.Prelude.{ℕ, ◌<◌, ◌≡◌, ◌⊎◌, true, List}
use Rattle.rules.specs.Numbers.{Octets}
use Rattle.rules.specs.Layout.{desks}
use Rattle.rules.specs.Book.{book_answer}
use Rattle.rules.specs.Take.{same_book, take_answer, taken, after_take}
use Rattle.relays.specs.Files.{joined_file, join_answer}

-- A take that is accepted meets nothing that joining the two files meets.
abbrev pub TakeMeetsNone : Type 0
TakeMeetsNone = (d : ℕ) (own copy : List ℕ) → take_answer d own copy ≡ 0 → join_answer own copy ≡ 0

-- And where joining two files meets nothing, a take of the one into the other meets 32 at most, at any desk.
abbrev pub JoinMeetsNone : Type 0
JoinMeetsNone =
    (d : ℕ) (own copy : List ℕ) → d < desks own → join_answer own copy ≡ 0 → (take_answer d own copy ≡ 0) ⊎ (take_answer d own copy ≡ 32)

-- A readable file meets nothing with itself, so that the laws say something of two files and of one.
abbrev pub JoinsItself : Type 0
JoinsItself = (b : List ℕ) → book_answer b ≡ 0 → join_answer b b ≡ 0

-- Where joining two files meets nothing, what is taken of them is the file of the join, whatever the taker's desk.
abbrev pub TakenIsJoin : Type 0
TakenIsJoin = (own copy : List ℕ) → Octets own → Octets copy → join_answer own copy ≡ 0 → taken own copy ≡ joined_file own copy

-- "Joining rows by the take rule": an accepted take leaves the file of the join.
abbrev pub TakeIsJoin : Type 0
TakeIsJoin =
    (d : ℕ) (own copy : List ℕ) → Octets own → Octets copy → take_answer d own copy ≡ 0 → after_take d own copy ≡ joined_file own copy

-- So it leaves a readable book, also where no history leads to it.
abbrev pub TakeReadable : Type 0
TakeReadable =
    (d : ℕ) (own copy : List ℕ) → Octets own → Octets copy → take_answer d own copy ≡ 0 → book_answer (after_take d own copy) ≡ 0

-- One join of files, beside `Joins`: it meets none of those refusals, and what comes out, which is what an accepted take leaves, is readable and of the same opening.
pub record FileJoins (a b : List ℕ) : Type 0 where
  pub meets_none : join_answer a b ≡ 0
  pub readable : book_answer (taken a b) ≡ 0
  pub opening : same_book (taken a b) a ≡ true

-- The laws on bytes, and each join that they speak of, beside `JoinLaws`.
pub record FileJoinLaws (a b c : List ℕ) : Type 0 where
  pub commutative : taken a b ≡ taken b a
  pub associative : taken (taken a b) c ≡ taken a (taken b c)
  pub idempotent : taken a a ≡ a
  pub first_second : FileJoins a b
  pub second_first : FileJoins b a
  pub second_third : FileJoins b c
  pub first_itself : FileJoins a a
  pub two_with_third : FileJoins (taken a b) c
  pub first_with_two : FileJoins a (taken b c)

-- The order of relays for readable files that meet neither 30 nor 31 with each other.
abbrev pub FileLaws : Type 0
FileLaws =
    (a b c : List ℕ) → Octets a → Octets b → Octets c
    → join_answer a b ≡ 0 → join_answer b c ≡ 0 → join_answer a c ≡ 0 → FileJoinLaws a b c

-- Relays: desk d has a, and b and c reach it. It takes them one by one in either order, or takes what desk e's book b became when c was taken into it: no take is
-- refused, and desk d is left with the same bytes.
pub record Relayed (d e : ℕ) (a b c : List ℕ) : Type 0 where
  pub c_after_b : take_answer d (after_take d a b) c ≡ 0
  pub b_after_c : take_answer d (after_take d a c) b ≡ 0
  pub both_at_once : take_answer d a (after_take e b c) ≡ 0
  pub same_in_turn : after_take d (after_take d a b) c ≡ after_take d (after_take d a c) b
  pub same_at_once : after_take d (after_take d a b) c ≡ after_take d a (after_take e b c)

-- Where desk d's takes of b and of c are accepted, and desk e's take of c into b, their grouping and order are of no consequence to desk d.
abbrev pub Relays : Type 0
Relays =
    (d e : ℕ) (a b c : List ℕ) → Octets a → Octets b → Octets c
    → take_answer d a b ≡ 0 → take_answer d a c ≡ 0 → take_answer e b c ≡ 0 → Relayed d e a b c
