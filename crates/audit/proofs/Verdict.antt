-- What the account of a body tells of it: its tallies are lawful exactly where the tests on the account hold.
-- Assumes nothing.
use Prim.Native.Nat.{ℕ, suc, ◌+◌, ◌≤◌, ◌<◌}
use native.Mathlib.Omega.{arith}
use mathlib.Core.Path.{◌≡◌, ◌∙◌}
use mathlib.Core.Logic.{◌≢◌, ⊎_elim}
use mathlib.Core.Bool.{Bool, true, false}
use lib.Dec.{leb, eqb}
use borrow.Author.Tests.{le-leb, eqb-true, eq-eqb}
use Rattle.rules.specs.Loops.{◌and◌, sum, every}
use Rattle.rules.specs.Numbers.{number}
use Rattle.rules.specs.Pile.{Side, draw, tip, Pile, credit, tally_limit, tallies_lawful}
use Rattle.rules.specs.Layout.{columns, column, cell_at}
use Rattle.rules.proofs.File.Body.{by_column, column_below}
use Rattle.audit.specs.declared.body.Body.{Body}
use Rattle.audit.specs.Inner.{pile_of, row_small}
use Rattle.rules.proofs.Loops.Logic.{same, decided, and_left, and_right, and_both}
use Rattle.rules.proofs.Loops.Every.{every_at, every_all, every_cong}
use Rattle.rules.proofs.Loops.Sums.{sum_cong, sum_zero, term_le}
use Rattle.rules.proofs.Pile.Facts.{both_at, both_all}

module _ (n : ℕ) (p : Pile) where
  -- all that the desks gave themselves, and all credits of both sides
  abbrev own_gives : ℕ
  own_gives = sum n (λ i. p.give draw i i + p.give tip i i)

  abbrev all_credits : ℕ
  all_credits = sum n (λ i. credit n p draw i + credit n p tip i)

  -- the tests of a desk's row, by side
  row_at : (i : ℕ) → tallies_lawful n p i ≡ true → (s : Side)
      → leb (p.earned s i) tally_limit and every n (λ j. leb (p.give s i j) tally_limit) and eqb (p.give s i i) 0 ≡ true
  unfolding tallies_lawful
  row_at i e = both_at _ e

  own_none : own_gives ≡ 0 → (s : Side) (i : ℕ) → i < n → p.give s i i ≡ 0
  own_none z draw i l = omega (arith, term_le n i (λ i. p.give draw i i + p.give tip i i) l)
  own_none z tip i l = omega (arith, term_le n i (λ i. p.give draw i i + p.give tip i i) l)

  row_passes : own_gives ≡ 0 → (i : ℕ) → i < n → ((s : Side) → leb (p.earned s i) tally_limit ≡ true)
      → ((s : Side) (j : ℕ) → j < n → leb (p.give s i j) tally_limit ≡ true) → tallies_lawful n p i ≡ true
  unfolding tallies_lawful
  row_passes z i l e g = both_all (λ s. and_both (e s) (and_both (every_all n (g s)) (eq-eqb _ _ (own_none z s i l))))

  -- a desk that gave itself something
  pub own_refused : own_gives ≢ 0 → every n (tallies_lawful n p) ≡ false
  own_refused d =
      ⊎_elim (λ e. absurd (d (sum_cong n (none e) ∙ sum_zero n))) (λ e. e) (decided (every n (tallies_lawful n p)))
    where
      own : every n (tallies_lawful n p) ≡ true → (i : ℕ) → i < n → (s : Side) → p.give s i i ≡ 0
      own e i l s = eqb-true _ _ (and_right _ _ (and_right _ _ (row_at i (every_at n _ e i l) s)))

      none : every n (tallies_lawful n p) ≡ true → (i : ℕ) → i < n → p.give draw i i + p.give tip i i ≡ 0
      none e i l = omega (arith, own e i l draw, own e i l tip)

  -- a tally is part of a credit, and so within the limit where all credits together are
  pub small_lawful : own_gives ≡ 0 → all_credits ≤ tally_limit → every n (tallies_lawful n p) ≡ true
  unfolding credit
  small_lawful z small =
      every_all n
      (λ i l. row_passes z i l (λ s. le-leb (p.earned s i) tally_limit (omega (arith, within s i l)))
      (λ s j m. le-leb (p.give s i j) tally_limit (omega (arith, within s j m, term_le n i (λ k. p.give s k j) l))))
    where
      within : (s : Side) (i : ℕ) → i < n → credit n p s i ≤ tally_limit
      within draw i l = omega (arith, term_le n i (λ i. credit n p draw i + credit n p tip i) l)
      within tip i l = omega (arith, term_le n i (λ i. credit n p draw i + credit n p tip i) l)

module _ (body : Body) where
  abbrev n : ℕ
  n = body.n

  abbrev P : Pile
  P = pile_of body

  -- is a number of the row of desk i within the limit of a tally
  abbrev small : ℕ → ℕ → Bool
  small i c = leb (number 4 body.bytes.now (cell_at n (suc i) c)) tally_limit

  -- where no desk gave itself anything, these numbers' limits are all that is left of the tests on the tallies
  pub read_lawful : own_gives n P ≡ 0 → every n (row_small body) ≡ every n (tallies_lawful n P)
  read_lawful z =
      every_cong n
      (λ i l. same _ _ (λ e. row_passes n P z i l (earned i e) (given i e)) (λ e. every_all (columns n) (number_small i e)))
    where
      earned : (i : ℕ) → every (columns n) (small i) ≡ true → (s : Side) → leb (P.earned s i) tally_limit ≡ true
      earned i e draw = every_at (columns n) (small i) e 0 (omega arith)
      earned i e tip = every_at (columns n) (small i) e 1 (omega arith)

      given : (i : ℕ) → every (columns n) (small i) ≡ true → (s : Side) (j : ℕ) → j < n → leb (P.give s i j) tally_limit ≡ true
      given i e s j m = every_at (columns n) (small i) e (column n s j) (column_below n s j m)

      number_small : (i : ℕ) → tallies_lawful n P i ≡ true → (c : ℕ) → c < columns n → small i c ≡ true
      number_small i e =
          by_column n (λ c. small i c ≡ true) (and_left _ _ (row_at n P i e draw)) (and_left _ _ (row_at n P i e tip))
          (λ s j m. every_at n _ (and_left _ _ (and_right _ _ (row_at n P i e s))) j m)

-- what tells a `grind` whether a body's tallies are lawful
pub ruleset tallies = (own_refused, small_lawful, read_lawful)
