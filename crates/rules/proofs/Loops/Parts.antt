-- A part of a list, and the list with that part written where it stands.
-- Assumes nothing.
use Prim.Native.Nat.{ℕ, ◌+◌, ◌≤◌, ◌<◌}
use native.Mathlib.Omega.{arith}
use mathlib.Core.Path.{◌≡◌, ap, sym, subst, ◌∙◌}
use mathlib.Core.List.{List, ◌++◌}
use lib.ListN.{length, get_or, take, drop, length-drop, take-append-drop}
use lib.Seq.{sets, sets-eq, length-take-le, take-add, get_or-take, get_or-drop, ext_get_or}
use Rattle.rules.specs.Numbers.{part}

pub length_part : (at m : ℕ) (l : List ℕ) → at + m ≤ length l → length (part at m l) ≡ m
length_part at m l fits = length-take-le m (drop at l) (omega (arith, length-drop at l))

pub get_d_part : (at m : ℕ) (l : List ℕ) (j : ℕ) → j < m → get_or (part at m l) j 0 ≡ get_or l (at + j) 0
get_d_part at m l j j<m = get_or-take m (drop at l) j 0 j<m ∙ get_or-drop at l j 0

pub part_is : (at m : ℕ) (l l' : List ℕ) → at + m ≤ length l → length l' ≡ m → ((j : ℕ) → j < m → get_or l (at + j) 0 ≡ get_or l' j 0) → part at m l ≡ l'
part_is at m l l' fits len h =
    ext_get_or 0 (part at m l) l' (length_part at m l fits ∙ sym len) (λ j below.
    let j<m : j < m = subst (λ (k : ℕ). j < k) (length_part at m l fits) below in
    get_d_part at m l j j<m ∙ h j j<m)

pub sets_part : (at m : ℕ) (l : List ℕ) → at + m ≤ length l → sets l at (part at m l) ≡ l
sets_part at m l fits =
    let len = length_part at m l fits in
    sets-eq (part at m l) l at (omega arith)
    ∙ ap (λ (k : ℕ). take at l ++ part at m l ++ drop (at + k) l) len
    ∙ ap (λ (r : List ℕ). r ++ drop (at + m) l) (sym (take-add at m l))
    ∙ take-append-drop (at + m) l
