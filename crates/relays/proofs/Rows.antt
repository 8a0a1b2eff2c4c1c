-- One row of a join. It is one of the two, so it is split with no row that neither of them is split with; and it is their least upper bound in the product order.
-- Assumes nothing.
use Prim.Native.Nat.{ℕ, ◌<◌}
use native.Mathlib.Nat.{le_antisymm}
use mathlib.Core.Path.{◌≡◌, refl, sym, subst, ◌∙◌}
use mathlib.Core.Bool.{Bool, true, false, cond}
use mathlib.Core.List.{List}
use lib.ListN.{length}
use lib.Seq.{ext_get_or}
use Rattle.history.proofs.Sets.{cases}
use Rattle.rules.specs.Layout.{columns}
use Rattle.rules.specs.Rows.{at_least, is_copy_later, is_split}
use Rattle.rules.proofs.Take.Order.{at_least_at}
use Rattle.rules.proofs.Take.RowOrder.{LeastAbove, latest_bound, split_exchanged}
use Rattle.relays.specs.Join.{numbers, order, join_row}

module _ (n : ℕ) where
  -- at least at every place; not split; with as many numbers as a row has
  abbrev pub above : List ℕ → List ℕ → Type 0
  above x y = at_least (columns n) (numbers x) (numbers y) ≡ true

  abbrev pub Whole : List ℕ → List ℕ → Type 0
  Whole x y = is_split (order n x y) ≡ false

  abbrev pub Long : List ℕ → Type 0
  Long x = length x ≡ columns n

  -- what holds of both rows holds of the joined one
  pub picked : (P : List ℕ → Type 0) {x y : List ℕ} → P x → P y → P (join_row n x y)
  unfolding join_row
  picked P {x} {y} px py = cases P (is_copy_later (order n x y)) (λ _. py) (λ _. px)

  -- it is the least upper bound
  pub bound : (x y : List ℕ) → Whole x y → LeastAbove (columns n) (numbers x) (numbers y) (numbers (join_row n x y))
  unfolding join_row
  bound x y s = go (is_copy_later (order n x y)) (latest_bound (columns n) (numbers x) (numbers y) s)
    where
      go : (later : Bool) → LeastAbove (columns n) (numbers x) (numbers y) (cond later (numbers y) (numbers x))
          → LeastAbove (columns n) (numbers x) (numbers y) (numbers (cond later y x))
      go true b = b
      go false b = b

  -- rows of n desks that are at least each other are one
  pub antisymmetric : {x y : List ℕ} → Long x → Long y → above x y → above y x → x ≡ y
  antisymmetric {x} {y} a b e d =
      ext_get_or 0 x y (a ∙ sym b)
      (λ c l. let l' : c < columns n = subst (λ (m : ℕ). c < m) a l in le_antisymm (at_least_at _ _ _ d c l') (at_least_at _ _ _ e c l'))

  -- with the two exchanged they are split just the same
  pub exchanged : (x y : List ℕ) → Whole x y → Whole y x
  exchanged x y s = split_exchanged (columns n) (numbers y) (numbers x) ∙ s

  -- a row joined with itself
  pub row_idempotent : (x : List ℕ) → join_row n x x ≡ x
  row_idempotent x = picked (λ r. r ≡ x) refl refl
