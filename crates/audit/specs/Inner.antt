-- What the functions inside the crate ask and promise of one body, which the bytes start with: no promise to a caller is made in these words.
-- Assumes nothing.
use Rattle.std.specs.Prelude.{ℕ, suc, ◌+◌, ◌*◌, ◌≤◌, ◌<◌, ◌≡◌, Bool, List, get_or, leb}
use Rattle.rules.specs.Loops.{sum, every}
use Rattle.rules.specs.Numbers.{number}
use Rattle.rules.specs.Pile.{Side, draw, tip, Pile, credit, tally_limit}
use Rattle.rules.specs.Layout.{columns, cell_at}
use Rattle.layout.specs.Inner.{first_body}
use Rattle.audit.specs.declared.body.Body.{Body}
use Rattle.audit.specs.declared.totals.Totals.{Totals}

-- the pile that a body is of
abbrev pub pile_of : Body → Pile
pile_of b = first_body b.n b.bytes.now

-- all that the desks gave themselves, and all credits of both sides
abbrev pub own_gives : Body → ℕ
own_gives b = sum b.n (λ i. (pile_of b).give draw i i + (pile_of b).give tip i i)

abbrev pub all_credits : Body → ℕ
all_credits b = sum b.n (λ i. credit b.n (pile_of b) draw i + credit b.n (pile_of b) tip i)

-- is each number in the row of desk i within the limit of a tally
abbrev pub row_small : Body → ℕ → Bool
row_small b i = every (columns b.n) (λ c. leb (number 4 b.bytes.now (cell_at b.n (suc i) c)) tally_limit)

-- totals of which n are what a function gives for their place
pub record SharesSet (n : ℕ) (share : ℕ → ℕ) (totals : List ℕ) : Type 0 where
  pub set_to : (j : ℕ) → j < n → get_or totals j 0 ≡ share j
  pub most : (j : ℕ) → j < n → get_or totals j 0 ≤ 4294967296

-- the shares of both sides: the totals of n desks start with them, and they come to a sum
pub record SharesRead (p : Pile) (n shares : ℕ) (totals : Totals) : Type 0 where
  pub sum : shares ≡ sum n (p.share draw) + sum n (p.share tip)
  pub draws : SharesSet n (p.share draw) totals.received.draw
  pub tips : SharesSet n (p.share tip) totals.received.tip

-- the number for each of n places is added to the total there
pub record RowAdded (n : ℕ) (given : ℕ → ℕ) (before after : List ℕ) : Type 0 where
  pub added : (j : ℕ) → j < n → get_or after j 0 ≡ get_or before j 0 + given j
  pub most : (j : ℕ) → j < n → given j ≤ 4294967296

-- One side of a pile, with i rows read: the total of each desk is its share and what these rows gave it, and for each of these rows there is what its
-- desk gave. How many rows are read is other at each call, so it is no fact of the totals' type.
pub record SideRead (p : Pile) (s : Side) (n i : ℕ) (got gave : List ℕ) : Type 0 where
  pub received_most : (j : ℕ) → j < n → get_or got j 0 ≤ (i + 1) * 4294967296
  pub given_most : (k : ℕ) → k < i → get_or gave k 0 ≤ 34359738368
  pub received : (j : ℕ) → j < n → get_or got j 0 ≡ p.share s j + sum i (λ k. p.give s k j)
  pub given : (k : ℕ) → k < i → get_or gave k 0 ≡ sum n (p.give s k)

-- both sides of a pile, with i rows read
pub record RowsRead (p : Pile) (n i : ℕ) (totals : Totals) : Type 0 where
  pub draws : SideRead p draw n i totals.received.draw totals.given.draw
  pub tips : SideRead p tip n i totals.received.tip totals.given.tip
