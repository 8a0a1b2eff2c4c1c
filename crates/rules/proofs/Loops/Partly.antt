-- A list that is filled from the front: its first k elements are f 0 .. f (k - 1), and the rest is as it was.
-- Assumes nothing.
use Prim.Native.Nat.{ℕ, suc, ◌+◌, ◌≤◌, ◌<◌}
use native.Mathlib.Omega.{arith}
use native.Mathlib.Numerals.{add-one}
use mathlib.Core.Path.{◌≡◌, refl, ap, sym, ◌∙◌}
use mathlib.Core.List.{List, [], ◌∷◌, ◌++◌, append_assoc}
use lib.ListN.{length, get_or, drop, set, length-append, length-drop}
use lib.Seq.{drop-cons, set-append_seam}
use Rattle.rules.specs.Loops.{flat, list}
use Rattle.rules.proofs.Loops.Pieces.{length_list}

module _ {A : Type 0} (f : ℕ → A) (l : List A) where
  abbrev pub partly : ℕ → List A
  partly k = list k f ++ drop k l

  pub partly_none : partly 0 ≡ l
  unfolding list flat
  partly_none = refl

  pub length_partly : (k : ℕ) → k ≤ length l → length (partly k) ≡ length l
  length_partly k h = length-append (list k f) (drop k l) ∙ omega (arith, length_list k f, length-drop k l)

  -- a store behind what is filled fills one element more
  pub partly_next : (k : ℕ) → k < length l → set (partly k) k (f k) ≡ partly (k + 1)
  unfolding list flat
  partly_next k h =
      ap (λ (r : List A). set (list k f ++ r) k (f k)) (drop-cons l k (f k) h)
      ∙ ap (λ (n : ℕ). set (list k f ++ get_or l k (f k) ∷ drop (suc k) l) n (f k)) (sym (length_list k f))
      ∙ set-append_seam (list k f) (get_or l k (f k)) (drop (suc k) l) (f k)
      ∙ sym (append_assoc (list k f) (f k ∷ []) (drop (suc k) l))
      ∙ ap partly (sym (add-one k))
