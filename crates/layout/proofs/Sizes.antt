-- What the length of a body tells that was asked for: 0 exactly where no book has n desks.
-- Assumes nothing.
use Prim.Native.Nat.{ℕ, ◌≤◌}
use mathlib.Core.Path.{◌≡◌, sym, ◌∙◌}
use mathlib.Core.Logic.{◌≢◌}
use mathlib.Core.Bool.{false}
use Rattle.rules.specs.Loops.{between}
use Rattle.rules.specs.Layout.{desk_limit, body_length}
use Rattle.rules.specs.Opening.{body_size}
use Rattle.rules.proofs.File.BodySize.{size_in_range, no_size, some_size}

module _ (n : ℕ) {size : ℕ} (is : size ≡ body_size n) where
  pub no_desks : size ≡ 0 → between 1 desk_limit n ≡ false
  no_desks e = no_size n (sym is ∙ e)

  pub some_desks : size ≢ 0 → (1 ≤ n) × (n ≤ desk_limit)
  some_desks d = some_size n (λ e. d (is ∙ e))

  pub size_is : size ≢ 0 → size ≡ body_length n
  size_is d = let desks = some_desks d in is ∙ size_in_range n desks.0 desks.1
