-- A pile whose tallies are 0 is lawful exactly where its opening is.
-- Assumes nothing.
use Prim.Native.Nat.{ℕ}
use native.Mathlib.Omega.{arith}
use mathlib.Core.Path.{◌≡◌, ap, sym, ◌∙◌}
use mathlib.Core.Logic.{⊎_elim}
use mathlib.Core.Bool.{not}
use Rattle.rules.specs.Refusals.{◌when◌, ◌or_else◌}
use Rattle.rules.specs.Pile.{Side, other, Pile, debit, opening_lawful, pile_answer}
use Rattle.rules.proofs.Loops.Logic.{decided}
use Rattle.rules.proofs.Loops.Refusals.{not_met}
use Rattle.rules.proofs.Loops.Sums.{sum_cong, sum_zero}
use Rattle.rules.proofs.Pile.Facts.{OpeningFacts, PileFacts, opening_facts, passes}

module _ (n : ℕ) (p : Pile) (earned : (s : Side) (i : ℕ) → p.earned s i ≡ 0) (give : (s : Side) (i j : ℕ) → p.give s i j ≡ 0) where
  no_debit : (s : Side) (i : ℕ) → debit n p s i ≡ 0
  unfolding debit
  no_debit s i = omega (arith, sum_cong n (λ j _. give s i j) ∙ sum_zero n, earned (other s) i)

  pub fresh_lawful : OpeningFacts n p → PileFacts n p
  fresh_lawful o =
      record {
        opening = o;
        earned_limit = λ s i _. omega (arith, earned s i);
        give_limit = λ s i j _ _. omega (arith, give s i j);
        give_self = λ s i _. give s i i;
        covered = λ s i _. omega (arith, no_debit s i);
      }

  pub fresh_pile_answer : pile_answer n p ≡ 5 when not (opening_lawful n p)
  unfolding pile_answer ◌when◌ ◌or_else◌
  fresh_pile_answer =
      ⊎_elim (λ e. passes n p (fresh_lawful (opening_facts n p e)) ∙ sym (not_met 5 (ap not e))) (λ e. rw e) (decided (opening_lawful n p))
