-- The list that a book is opened from: the numbers from where pile k starts are those of pile k.
-- Assumes nothing.
use Prim.Native.Nat.{ℕ, ◌+◌, ◌-◌, ◌*◌}
use native.Mathlib.Omega.{arith}
use mathlib.Core.Path.{◌≡◌, ap, ◌∙◌, fun_ext}
use mathlib.Core.List.{List}
use lib.ListN.{length, drop, length-drop, get_or}
use lib.Seq.{take_all, get_or-drop}
use Rattle.std.specs.Prelude.{take}
use Rattle.rules.specs.Pile.{Pile}
use Rattle.rules.specs.Layout.{column}
use Rattle.rules.specs.Opening.{given, given_pile}

-- the numbers from one on
abbrev rest : ℕ → List ℕ → List ℕ
rest at l = take (length l - at) (drop at l)

module _ (n : ℕ) (l : List ℕ) where
  -- what stands at the start of a list is the first pile's
  pub given_first : (c : ℕ) → get_or l c 0 ≡ given n l 0 c
  unfolding given
  given_first c = ap (λ (j : ℕ). get_or l j 0) (omega arith)

  module _ (k : ℕ) where
    abbrev place : ℕ
    place = k * (3 + 2 * n)

    given_from : (c : ℕ) → given n (rest place l) 0 c ≡ given n l k c
    unfolding given
    given_from c =
        ap (λ (j : ℕ). get_or (rest place l) j 0) (omega arith)
        ∙ ap (λ (m : List ℕ). get_or m c 0) (take_all (length l - place) (drop place l) (omega (arith, length-drop place l)))
        ∙ get_or-drop place l c 0

    pub number_from : given n (rest place l) 0 0 ≡ given n l k 0
    number_from = given_from 0

    pub pile_from : given_pile n (rest place l) 0 ≡ given_pile n l k
    unfolding given_pile
    pile_from = ap pile_of (fun_ext given_from)
      where
        pile_of : (ℕ → ℕ) → Pile
        pile_of f = record { floor = f 1; top = f 2; share = λ s i. f (1 + column n s i); earned = λ s i. 0; give = λ s i j. 0 }
