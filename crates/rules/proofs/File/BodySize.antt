-- The length of a body as it is told to whoever asks: 0 exactly where no book has that many desks.
-- Assumes nothing.
use Prim.Native.Nat.{ℕ, ◌≤◌, ◌<◌}
use native.Mathlib.Nat.{zero-lt-suc}
use native.Mathlib.Omega.{arith}
use mathlib.Core.Path.{◌≡◌, ap, sym, ◌∙◌}
use mathlib.Core.Bool.{Bool, false, cond}
use mathlib.Core.Logic.{◌≢◌, ◌⊎◌, ⊎_elim}
use borrow.Author.Tests.{le-leb, lt-leb}
use Rattle.rules.specs.Loops.{between}
use Rattle.rules.specs.Layout.{desk_limit, row_length, body_length}
use Rattle.rules.specs.Opening.{body_size}
use Rattle.rules.proofs.Loops.Logic.{decided, in_range, and_both, and_left_fails, and_right_fails}
use Rattle.rules.proofs.File.Body.{row_within}

module _ (n : ℕ) where
  abbrev size : Bool → ℕ
  size t = cond t (body_length n) 0

  outside : (n < 1) ⊎ (desk_limit < n) → between 1 desk_limit n ≡ false
  unfolding between
  outside h = ⊎_elim (λ low. and_left_fails (lt-leb _ _ low) _) (λ high. and_right_fails _ (lt-leb _ _ high)) h

  pub size_in_range : 1 ≤ n → n ≤ desk_limit → body_size n ≡ body_length n
  unfolding body_size between
  size_in_range least most = ap size (and_both (le-leb _ _ least) (le-leb _ _ most))

  pub size_out_of_range : (n < 1) ⊎ (desk_limit < n) → body_size n ≡ 0
  unfolding body_size
  size_out_of_range h = ap size (outside h)

  pub no_size : body_size n ≡ 0 → between 1 desk_limit n ≡ false
  unfolding body_size row_length
  no_size e = ⊎_elim (λ t. absurd (omega (arith, sym (ap size t) ∙ e, row_within n 0 (zero-lt-suc n)))) (λ f. f) (decided (between 1 desk_limit n))

  pub some_size : body_size n ≢ 0 → (1 ≤ n) × (n ≤ desk_limit)
  unfolding body_size
  some_size d = ⊎_elim (in_range 1 desk_limit n) (λ f. absurd (d (ap size f))) (decided (between 1 desk_limit n))
