-- A part of a list that was written anew, between what stands before it and behind it.
-- Assumes nothing.
use Prim.Native.Nat.{ℕ, ◌+◌, ◌≤◌}
use native.Mathlib.Omega.{arith}
use mathlib.Core.Path.{◌≡◌, ap, sym, ◌∙◌}
use mathlib.Core.List.{List, ◌++◌}
use lib.ListN.{length, take, drop}
use lib.Seq.{sets, sets-eq}
use Rattle.std.proofs.Common.{append_assoc}
use Rattle.std.proofs.lemmas.List.{drop-drop}

pub back_in_place : (l : List ℕ) (at m : ℕ) (v : List ℕ) → length v ≡ m → at + m ≤ length l → take at l ++ (v ++ drop m (drop at l)) ≡ sets l at v
back_in_place l at m v long fits =
    ap (λ (rest : List ℕ). take at l ++ (v ++ rest)) (drop-drop m at l ∙ ap (λ (k : ℕ). drop (at + k) l) (sym long))
    ∙ sym (append_assoc (take at l) v (drop (at + length v) l)) ∙ sym (sets-eq v l at (omega arith))
