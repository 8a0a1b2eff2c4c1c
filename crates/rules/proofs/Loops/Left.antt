-- What a call leaves in something lent: all of it as it was where the call is refused, and otherwise what it then should hold.
-- Assumes nothing.
use Prim.Native.Nat.{ℕ}
use mathlib.Core.Path.{◌≡◌, sym, ◌∙◌}
use mathlib.Core.Logic.{◌≢◌}
use Rattle.rules.specs.Refusals.{done}
use Rattle.rules.proofs.Loops.Refusals.{when_accepted, when_refused}

module _ {A : Type 0} {answer : ℕ} (after before : A) where
  pub stays : {m : ℕ} → m ≡ answer → m ≢ 0 → before ≡ done answer after before
  stays e d = sym (when_refused _ _ _ (λ z. d (e ∙ z)))

  pub becomes : answer ≡ 0 → {x : A} → x ≡ after → x ≡ done answer after before
  becomes e is = is ∙ sym (when_accepted _ _ _ e)
