-- A loop that asks one thing after the other, and stops at the first that is refused.
-- Assumes nothing.
use Prim.Native.Nat.{ℕ, ◌+◌, ◌≤◌, ◌<◌}
use native.Mathlib.Omega.{arith}
use mathlib.Core.Path.{◌≡◌, refl, sym, ◌∙◌}
use mathlib.Core.Logic.{◌≢◌}
use Rattle.rules.specs.Refusals.{first}
use Rattle.rules.proofs.Loops.Refusals.{first_next, first_stops}

-- the first k of p are not refused
pub record PassedSoFar (p : ℕ) (answer : ℕ → ℕ) (k : ℕ) : Type 0 where
  pub counted : k ≤ p
  pub not_refused : first k answer ≡ 0

module _ {p : ℕ} {answer : ℕ → ℕ} where
  pub none_asked : PassedSoFar p answer 0
  unfolding first
  none_asked = record { counted = omega arith; not_refused = refl }

  pub all_passed : {k : ℕ} → PassedSoFar p answer k → p ≤ k → 0 ≡ first p answer
  all_passed {k} passed h = let done : k ≡ p = omega arith in sym (rw done at passed.not_refused)

  module _ {k m : ℕ} (passed : PassedSoFar p answer k) (k<p : k < p) (is : m ≡ answer k) where
    pub next_passed : m ≡ 0 → PassedSoFar p answer (k + 1)
    next_passed z = record { counted = omega arith; not_refused = first_next k answer passed.not_refused (sym is ∙ z) }

    pub refused_first : m ≢ 0 → m ≡ first p answer
    refused_first d = is ∙ sym (first_stops p answer k k<p passed.not_refused (λ z. d (is ∙ z)))
