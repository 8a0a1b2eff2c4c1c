-- One stockpile of n desks: its opening, its tallies, and the rights that follow from them ("Rights" of document 01).
-- It is the Bounded Counter of source document 000 (Figure 1) kept twice: the side `draw` guards the floor, the side `tip` the top.
-- Assumes nothing.
use Rattle.std.specs.Prelude.{ℕ, zero, suc, ◌+◌, ◌-◌, ◌≤◌, Bool, not, leb, eqb}
use Rattle.rules.specs.Loops.{◌and◌, sum, every}
use Rattle.rules.specs.Refusals.{◌when◌, ◌or_else◌}

pub data Side : Type 0 where
  draw tip : Side

abbrev pub other : Side → Side
other draw = tip
other tip = draw

-- a side by its number: 0 for draw and 1 for tip
abbrev pub side_of : ℕ → Side
side_of zero = draw
side_of (suc n) = tip

unfoldable pub both_sides : (Side → Bool) → Bool
both_sides t = t draw and t tip

-- A pile read by side and desk, wherever its numbers stand. Only desks below n are read.
pub record Pile : Type 0 where
  pub floor : ℕ
  pub top : ℕ
  -- a desk's share of a side, fixed at the opening
  pub share : Side → ℕ → ℕ
  -- the tally that earned a desk rights of a side: what it tipped earned draw rights, what it drew earned tip rights
  pub earned : Side → ℕ → ℕ
  -- the tally of what one desk gave another of a side
  pub give : Side → ℕ → ℕ → ℕ

-- limits: of the top, of a tally, of an act's amount
abbrev pub top_limit : ℕ
top_limit = 10000000

abbrev pub tally_limit : ℕ
tally_limit = 1000000000

abbrev pub amount_limit : ℕ
amount_limit = 1000

-- Rights of a side are credit less debit; what earns rights of one side spends those of the other.
-- Shares start as credit: Figure 1's diagonal R[i][i] is share + earned, and its U[i] is what was spent.
unfoldable pub credit : ℕ → Pile → Side → ℕ → ℕ
credit n p s i = p.share s i + p.earned s i + sum n (λ j. p.give s j i)

unfoldable pub debit : ℕ → Pile → Side → ℕ → ℕ
debit n p s i = sum n (λ j. p.give s i j) + p.earned (other s) i

unfoldable pub rights : ℕ → Pile → Side → ℕ → ℕ
rights n p s i = credit n p s i - debit n p s i

-- no rights are negative
unfoldable pub lawful : ℕ → Pile → Bool
lawful n p = every n (λ i. both_sides (λ s. leb (debit n p s i) (credit n p s i)))

-- document 01's tonnage now, Figure 1's value, by the acts that a book holds: what was there at the opening (floor + all draw shares) and all tipped, less
-- all drawn
abbrev pub had_and_tipped : ℕ → Pile → ℕ
had_and_tipped n p = p.floor + sum n (p.share draw) + sum n (p.earned draw)

abbrev pub all_drawn : ℕ → Pile → ℕ
all_drawn n p = sum n (p.earned tip)

unfoldable pub tonnage : ℕ → Pile → ℕ
tonnage n p = had_and_tipped n p - all_drawn n p

-- the pile is between its floor and its top, said without a difference that could fall short: no more was drawn than was there above the floor
pub record BetweenBounds (n : ℕ) (p : Pile) : Type 0 where
  pub above_floor : p.floor + all_drawn n p ≤ had_and_tipped n p
  pub below_top : had_and_tipped n p ≤ p.top + all_drawn n p

-- floor ≤ top ≤ 10,000,000, and all shares of both kinds add up to top - floor
unfoldable pub opening_lawful : ℕ → Pile → Bool
opening_lawful n p =
    leb p.floor p.top
    and leb p.top top_limit
    and eqb (sum n (p.share draw) + sum n (p.share tip)) (p.top - p.floor)

-- each tally of desk i is within its limit, and its gives to itself are 0
unfoldable pub tallies_lawful : ℕ → Pile → ℕ → Bool
tallies_lawful n p i =
    both_sides
    (λ s. leb (p.earned s i) tally_limit and every n (λ j. leb (p.give s i j) tally_limit) and eqb (p.give s i i) 0)

-- "Each body": 5, 6 and 7
unfoldable pub pile_answer : ℕ → Pile → ℕ
pile_answer n p =
    5 when not (opening_lawful n p)
    or_else 6 when not (every n (tallies_lawful n p))
    or_else 7 when not (lawful n p)

-- floor, top and all shares agree
unfoldable pub same_opening : ℕ → Pile → Pile → Bool
same_opening n p q =
    eqb p.floor q.floor
    and eqb p.top q.top
    and every n (λ i. both_sides (λ s. eqb (p.share s i) (q.share s i)))
