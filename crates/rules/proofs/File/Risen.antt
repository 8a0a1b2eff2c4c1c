-- A loop that tests that pile numbers rise, each against the one before it: what holds as far as it has come, and where it stops.
-- Assumes nothing.
use Prim.Native.Nat.{ℕ, ◌+◌, ◌≤◌, ◌<◌}
use native.Mathlib.Numerals.{add-one}
use native.Mathlib.Omega.{arith}
use mathlib.Core.Path.{◌≡◌, refl, ap, sym, ◌∙◌}
use mathlib.Core.Logic.{◌⊎◌, ⊎_elim}
use mathlib.Core.Bool.{true, false}
use borrow.Author.Tests.{lt-ltb, le-ltb, le-leb, lt-leb}
use Rattle.rules.specs.Loops.{every}
use Rattle.rules.specs.Layout.{pile_number_limit}
use Rattle.rules.specs.Opening.{previous, rising}
use Rattle.rules.proofs.Loops.Logic.{and_both, and_left_fails, and_right_fails}
use Rattle.rules.proofs.Loops.Every.{every_next, every_stops}

-- the first k of p numbers rise, and the last of them is at hand
pub record Risen (p : ℕ) (f : ℕ → ℕ) (k last : ℕ) : Type 0 where
  pub counted : k ≤ p
  pub last_is : last ≡ previous f k
  pub rises : rising k f ≡ true

module _ {p : ℕ} {f : ℕ → ℕ} where
  pub none_risen : Risen p f 0 0
  unfolding rising every
  none_risen = record { counted = omega arith; last_is = refl; rises = refl }

  pub all_risen : {k last : ℕ} → Risen p f k last → p ≤ k → rising p f ≡ true
  all_risen {k} r h = let done : k ≡ p = omega arith in rw done at r.rises

  module _ {k last number : ℕ} (r : Risen p f k last) (k<p : k < p) (is : number ≡ f k) where
    pub next_risen : last < number → number ≤ pile_number_limit → Risen p f (k + 1) number
    unfolding rising
    next_risen above low =
        record {
          counted = omega arith;
          last_is = is ∙ ap (previous f) (sym (add-one k));
          rises = every_next _ _ r.rises (and_both (lt-ltb _ _ (rw (is, r.last_is) at above)) (le-leb _ _ (rw is at low)));
        }

    pub not_risen : (number ≤ last) ⊎ (pile_number_limit < number) → rising p f ≡ false
    unfolding rising
    not_risen wrong =
        every_stops _ _ k k<p (⊎_elim (λ l. and_left_fails (le-ltb _ _ (rw (is, r.last_is) at l)) _) (λ l. and_right_fails _ (lt-leb _ _ (rw is at l))) wrong)
