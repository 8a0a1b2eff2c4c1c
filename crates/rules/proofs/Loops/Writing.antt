-- A loop that writes piece after piece: after k turns a lent slice is what it was, with the first k pieces in it from a position on.
-- Assumes nothing.
use Prim.Native.Nat.{ℕ, ◌+◌, ◌*◌, ◌≤◌, ◌<◌}
use native.Mathlib.Numerals.{add-one}
use native.Mathlib.Omega.{arith}
use mathlib.Core.Path.{◌≡◌, refl, ◌∙◌}
use mathlib.Core.List.{List, [], ◌∷◌}
use lib.ListN.{length, set}
use lib.Seq.{sets, length-sets}
use Rattle.rules.specs.Loops.{flat, list}
use Rattle.rules.proofs.Loops.Pieces.{length_flat}
use Rattle.rules.proofs.Loops.Sets.{sets_then}

-- the first k of m pieces are in a list, which was b
pub record Written (b : List ℕ) (at m : ℕ) (piece : ℕ → List ℕ) (k : ℕ) (l : List ℕ) : Type 0 where
  pub counted : k ≤ m
  pub long : length l ≡ length b
  pub is : l ≡ sets b at (flat k piece)

module _ {b : List ℕ} {at m : ℕ} {piece : ℕ → List ℕ} where
  pub none_written : Written b at m piece 0 b
  unfolding flat
  none_written = record { counted = omega arith; long = refl; is = refl }

  pub all_written : {k : ℕ} {l : List ℕ} → Written b at m piece k l → m ≤ k → l ≡ sets b at (flat m piece)
  all_written {k} w h = let done : k ≡ m = omega arith in rw done at w.is

  -- one piece more, behind those before it
  pub next_written : (ℓ : ℕ) → ((j : ℕ) → j < m → length (piece j) ≡ ℓ) → {k to : ℕ} {l after : List ℕ} → Written b at m piece k l → k < m
      → to ≡ at + k * ℓ → after ≡ sets l to (piece k) → Written b at m piece (k + 1) after
  unfolding flat
  next_written ℓ sized {k} w k<m behind put =
      record {
        counted = omega arith;
        long = rw (put, length-sets) w.long;
        is = put ∙ rw (w.is, add-one k) (sets_then b at (flat k piece) _ (piece k) (omega (arith, length_flat k ℓ piece (λ j l. sized j (omega arith)))));
      }

-- pieces of one number
module _ {b : List ℕ} {at m : ℕ} {f : ℕ → ℕ} where
  pub next_number_lem : {k : ℕ} {l : List ℕ} → Written b at m (λ j. f j ∷ []) k l → k < m → Written b at m (λ j. f j ∷ []) (k + 1) (set l (at + k) (f k))
  next_number_lem w k<m = next_written 1 (λ j _. refl) w k<m (omega arith) refl

  pub all_numbers : {k : ℕ} {l : List ℕ} → Written b at m (λ j. f j ∷ []) k l → m ≤ k → l ≡ sets b at (list m f)
  unfolding list
  all_numbers = all_written
