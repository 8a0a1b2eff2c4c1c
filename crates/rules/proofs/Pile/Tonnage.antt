-- Every give leaves one desk's rights for another's, so all rights of a side come from shares and tallies alone: the tonnage is
-- the floor and all draw rights, and the top less all tip rights. Rights are not negative, so it lies between the two.
-- Assumes nothing.
use Prim.Native.Nat.{ℕ, ◌+◌, ◌≤◌, ◌<◌}
use native.Mathlib.Omega.{arith}
use native.Mathlib.Nat.{sub-add_cancel}
use mathlib.Core.Path.{◌≡◌, ap₂, sym, ◌∙◌}
use Rattle.rules.specs.Loops.{sum}
use Rattle.rules.specs.Pile.{Side, draw, tip, other, Pile, credit, debit, rights, tonnage, BetweenBounds, top_limit}
use Rattle.rules.proofs.Loops.Sums.{sum_cong, sum_add, sum_swap, term_le}
use Rattle.rules.proofs.Pile.Facts.{PileFacts}

module _ (n : ℕ) (p : Pile) (f : PileFacts n p) where
  -- rights and debit make up the credit, at each desk and so at all
  pub rights_debit : (s : Side) (i : ℕ) → i < n → rights n p s i + debit n p s i ≡ credit n p s i
  unfolding rights
  rights_debit s i l = sub-add_cancel (f.covered s i l)

  -- all rights of a side and what was spent of them are all its shares and what earned them
  pub balance : (s : Side)
      → sum n (rights n p s) + sum n (p.earned (other s)) ≡ sum n (p.share s) + sum n (p.earned s)
  unfolding credit debit
  balance s =
      let given : ℕ = sum n (λ i. sum n (λ j. p.give s i j)) in
      let credits : sum n (credit n p s) ≡ sum n (p.share s) + sum n (p.earned s) + given
      = sum_add n (λ i. p.share s i + p.earned s i) (λ i. sum n (λ j. p.give s j i))
      ∙ ap₂ ◌+◌ (sum_add n (p.share s) (p.earned s)) (sum_swap n n (λ i j. p.give s j i)) in
      let debits : sum n (debit n p s) ≡ given + sum n (p.earned (other s))
      = sum_add n (λ i. sum n (λ j. p.give s i j)) (p.earned (other s)) in
      let all : sum n (rights n p s) + sum n (debit n p s) ≡ sum n (credit n p s)
      = sym (sum_add n (rights n p s) (debit n p s)) ∙ sum_cong n (rights_debit s) in
      omega arith

  pub tonnage_floor : tonnage n p ≡ p.floor + sum n (rights n p draw)
  unfolding tonnage
  tonnage_floor = omega (arith, balance draw)

  pub tonnage_top : tonnage n p + sum n (rights n p tip) ≡ p.top
  unfolding tonnage
  tonnage_top = omega (arith, balance draw, balance tip, f.opening.floor_top, f.opening.shares)

  pub within_bounds : BetweenBounds n p
  within_bounds =
      record {
        above_floor = omega (arith, balance draw);
        below_top = omega (arith, balance draw, balance tip, f.opening.floor_top, f.opening.shares);
      }

  pub tonnage_within : (p.floor ≤ tonnage n p) × (tonnage n p ≤ p.top)
  tonnage_within = (omega (arith, tonnage_floor), omega (arith, tonnage_top))

-- no right of a lawful pile is above its top
pub rights_most : (n : ℕ) (p : Pile) → PileFacts n p → (s : Side) (i : ℕ) → i < n → rights n p s i ≤ top_limit
rights_most n p f draw i l =
    omega (arith, term_le n i (rights n p draw) l, tonnage_floor n p f, (tonnage_within n p f).1, f.opening.top_limit_lem)
rights_most n p f tip i l =
    omega (arith, term_le n i (rights n p tip) l, tonnage_top n p f, f.opening.top_limit_lem)
