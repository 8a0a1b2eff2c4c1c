-- The unused shares and places of a record that has no others than 0 there.
-- Assumes nothing.
use Prim.Native.Nat.{ℕ, ◌≤◌, ◌<◌}
use mathlib.Core.Path.{◌≡◌}
use mathlib.Core.Logic.{◌⊎◌, ⊎_elim}
use mathlib.Core.Bool.{true}
use borrow.Author.Tests.{eqb-true, le-ltb}
use Rattle.rules.specs.Pile.{Side, Pile}
use Rattle.rules.specs.Record.{unused_shares, unused_places}
use Rattle.rules.proofs.Loops.Logic.{and_left, and_right, and_left_fails, and_right_fails, or_other}
use Rattle.rules.proofs.Loops.Every.{every_at}
use Rattle.rules.proofs.Pile.Facts.{both_at}

module _ (n : ℕ) (p : Pile) where
  pub unused_share : unused_shares n p ≡ true → (s : Side) (j : ℕ) → n ≤ j → j < 8 → p.share s j ≡ 0
  unfolding unused_shares
  unused_share e s j n≤j j<8 = eqb-true _ _ (both_at _ (or_other _ _ (le-ltb j n n≤j) (every_at 8 _ e j j<8)) s)

  module _ (e : unused_places n p ≡ true) where
    pub unused_earned : (s : Side) (i : ℕ) → n ≤ i → i < 8 → p.earned s i ≡ 0
    unfolding unused_places
    unused_earned s i n≤i i<8 = eqb-true _ _ (both_at _ (or_other _ _ (le-ltb i n n≤i) (and_left _ _ (every_at 8 _ e i i<8))) s)

    pub unused_give : (s : Side) (i j : ℕ) → i < 8 → j < 8 → (n ≤ i) ⊎ (n ≤ j) → p.give s i j ≡ 0
    unfolding unused_places
    unused_give s i j i<8 j<8 h =
        eqb-true _ _ (both_at _ (or_other _ _ (⊎_elim (λ l. and_left_fails (le-ltb i n l) _) (λ l. and_right_fails _ (le-ltb j n l)) h)
        (every_at 8 _ (and_right _ _ (every_at 8 _ e i i<8)) j j<8)) s)
