-- What comparing two rows tells follows from two tests: is the first at least the second at every place, and the second the first.
-- Assumes nothing.
use Prim.Native.Nat.{ℕ, ◌+◌, ◌≤◌, ◌<◌}
use native.Mathlib.Nat.{le_of_eq, le_antisymm}
use native.Mathlib.Numerals.{add-one}
use native.Mathlib.Omega.{arith}
use mathlib.Core.Path.{◌≡◌, refl, ap, ap₂, sym, ◌∙◌}
use mathlib.Core.Bool.{Bool, true, false, cond, not, true≢false}
use lib.Dec.{leb}
use borrow.Author.Tests.{le-leb, lt-leb}
use Rattle.rules.specs.Loops.{◌and◌, every}
use Rattle.rules.specs.Rows.{at_least, alike, later, Comparison, both_alike, mine_later, copy_later, both_split, row_order, is_alike, is_copy_later, is_split}
use Rattle.rules.proofs.Loops.Logic as logic
use Rattle.rules.proofs.Loops.Logic.{and_left, and_right, and_both, and_true, and_right_fails}
use Rattle.rules.proofs.Loops.Every.{every_cong}
use Rattle.rules.proofs.Take.Order.{at_least_at, at_least_all, at_least_itself, alike_at, alike_all}

-- In the product order: rows at least each other are alike; one that is so alone is later; with neither so they are split, a fork.
abbrev pub order_by : Bool → Bool → Comparison
order_by x y = cond x (cond y both_alike mine_later) (cond y copy_later both_split)

-- one place more, as a program's loop counts,
at_least_next : (k : ℕ) (f g : ℕ → ℕ) → at_least (k + 1) f g ≡ at_least k f g and leb (g k) (f k)
unfolding at_least every
at_least_next k f g = rw (add-one k)

-- with the numbers x and y that stand there: the first row is below the second at it, or at least the second
module _ (k : ℕ) (f g : ℕ → ℕ) {x y : ℕ} (x-is : x ≡ f k) (y-is : y ≡ g k) where
  pub at_least_fails : x < y → at_least (k + 1) f g ≡ false
  at_least_fails l = at_least_next k f g ∙ and_right_fails _ (lt-leb (g k) (f k) (omega arith))

  pub at_least_stays : y ≤ x → at_least (k + 1) f g ≡ at_least k f g
  at_least_stays l = at_least_next k f g ∙ rw (le-leb (g k) (f k) (omega arith)) (and_true _)

-- the product order is antisymmetric
alike_both : (m : ℕ) (f g : ℕ → ℕ) → alike m f g ≡ at_least m f g and at_least m g f
alike_both m f g =
    logic.same _ _
    (λ e. and_both (at_least_all m f g (λ c l. le_of_eq (sym (alike_at m f g e c l)))) (at_least_all m g f (λ c l. le_of_eq (alike_at m f g e c l))))
    (λ e. alike_all m f g (λ c l. le_antisymm (at_least_at m g f (and_right _ _ e) c l) (at_least_at m f g (and_left _ _ e) c l)))

module _ (m : ℕ) (f g : ℕ → ℕ) where
  pub row_order_lem : row_order m f g ≡ order_by (at_least m f g) (at_least m g f)
  unfolding row_order later ◌and◌
  row_order_lem = rw (alike_both m f g, alike_both m g f) (go (at_least m f g) (at_least m g f))
    where
      go : (x y : Bool) → cond (x and y) both_alike (cond (x and not (x and y)) mine_later (cond (y and not (y and x)) copy_later both_split)) ≡ order_by x y
      go true true = refl
      go true false = refl
      go false true = refl
      go false false = refl

  -- alike exactly where the comparison tells so
  pub alike_told : is_alike (row_order m f g) ≡ alike m f g
  unfolding ◌and◌
  alike_told = ap is_alike row_order_lem ∙ go (at_least m f g) (at_least m g f) ∙ sym (alike_both m f g)
    where
      go : (x y : Bool) → is_alike (order_by x y) ≡ x and y
      go true true = refl
      go true false = refl
      go false true = refl
      go false false = refl

  -- of two rows that are not split the later or common one is their least upper bound
  pub record LeastAbove (top : ℕ → ℕ) : Type 0 where
    pub mine : at_least m top f ≡ true
    pub copy : at_least m top g ≡ true
    pub least : (x : ℕ → ℕ) → at_least m x f ≡ true → at_least m x g ≡ true → at_least m x top ≡ true

  pub latest_bound : is_split (row_order m f g) ≡ false → LeastAbove (cond (is_copy_later (row_order m f g)) g f)
  latest_bound = rw row_order_lem (go (at_least m f g) (at_least m g f) refl refl)
    where
      first : at_least m f g ≡ true → LeastAbove f
      first e = record { mine = at_least_itself m f; copy = e; least = λ x a b. a }

      go : (x y : Bool) → at_least m f g ≡ x → at_least m g f ≡ y → is_split (order_by x y) ≡ false → LeastAbove (cond (is_copy_later (order_by x y)) g f)
      go true true e d s = first e
      go true false e d s = first e
      go false true e d s = record { mine = d; copy = at_least_itself m g; least = λ x a b. b }
      go false false e d s = absurd (true≢false s)

-- a row beside itself
pub itself_alike : (m : ℕ) (f : ℕ → ℕ) → row_order m f f ≡ both_alike
itself_alike m f = row_order_lem m f f ∙ ap₂ order_by (at_least_itself m f) (at_least_itself m f)

-- with the two exchanged they are split just the same
pub split_exchanged : (m : ℕ) (f g : ℕ → ℕ) → is_split (row_order m f g) ≡ is_split (row_order m g f)
split_exchanged m f g = ap is_split (row_order_lem m f g) ∙ go (at_least m f g) (at_least m g f) ∙ sym (ap is_split (row_order_lem m g f))
  where
    go : (x y : Bool) → is_split (order_by x y) ≡ is_split (order_by y x)
    go true true = refl
    go true false = refl
    go false true = refl
    go false false = refl

-- the numbers below m decide
pub row_order_cong : (m : ℕ) {f g f' g' : ℕ → ℕ} → ((c : ℕ) → c < m → f c ≡ f' c) → ((c : ℕ) → c < m → g c ≡ g' c) → row_order m f g ≡ row_order m f' g'
unfolding at_least
row_order_cong m h j =
    row_order_lem m _ _
    ∙ ap₂ order_by (every_cong m (λ c l. ap₂ leb (j c l) (h c l))) (every_cong m (λ c l. ap₂ leb (h c l) (j c l)))
    ∙ sym (row_order_lem m _ _)
