-- Writing into a list from a position on: what was written is there, and all beside it is as it was; pieces written one after the other.
-- Assumes nothing.
use Prim.Native.Nat.{ℕ, zero, suc, ◌+◌, ◌*◌, ◌≤◌, ◌<◌}
use native.Mathlib.Nat.{le_refl, le_of_eq, le_step, add-suc, suc-add, zero-add, add-zero, le_of_suc-le-suc, eq-or-lt_of_le, not-suc-le-zero}
use native.Mathlib.Omega.{arith}
use mathlib.Core.Path.{◌≡◌, refl, ap, ap₂, sym, ◌∙◌}
use mathlib.Core.Bool.{Bool, cond}
use mathlib.Core.Logic.{◌⊎◌, inl, inr, ⊎_elim}
use mathlib.Core.List.{List, [], ◌∷◌, ◌++◌, append-nil}
use lib.ListN.{length, get_or, take, drop, set, length-set}
use lib.Seq.{sets, sets-eq, drop-length, length-sets, get_or-set_same, get_or-set_other}
use lib.Dec.{eqb}
use borrow.Author.Tests.{eq-eqb, ne_eqb}
use Rattle.rules.specs.Loops.{flat}
use Rattle.rules.specs.Numbers.{part}
use Rattle.rules.proofs.Loops.Ranges.{piece_within}
use Rattle.rules.proofs.Loops.Pieces.{flat_cong, length_flat}
use Rattle.rules.proofs.Loops.Parts.{length_part, get_d_part, part_is}

pub getD_sets_other : (b : List ℕ) (at : ℕ) (v : List ℕ) (k : ℕ) → (k < at) ⊎ (at + length v ≤ k) → get_or (sets b at v) k 0 ≡ get_or b k 0
getD_sets_other b at [] k h = refl
getD_sets_other b at (x ∷ v) k h =
    getD_sets_other (set b at x) (suc at) v k (⊎_elim (λ l. inl (omega arith)) (λ l. inr (omega arith)) h)
    ∙ get_or-set_other b at k x 0 (⊎_elim (λ l e. omega arith) (λ l e. omega arith) h)

pub getD_sets_in : (b : List ℕ) (at : ℕ) (v : List ℕ) (j : ℕ) → j < length v → at + length v ≤ length b
    → get_or (sets b at v) (at + j) 0 ≡ get_or v j 0
getD_sets_in b at [] j l fits = absurd (not-suc-le-zero l)
getD_sets_in b at (x ∷ v) zero l fits =
    ap (λ (k : ℕ). get_or (sets (set b at x) (suc at) v) k 0) (add-zero at)
    ∙ getD_sets_other (set b at x) (suc at) v at (inl (omega arith))
    ∙ get_or-set_same b at x 0 (omega arith)
getD_sets_in b at (x ∷ v) (suc j) l fits =
    ap (λ (k : ℕ). get_or (sets (set b at x) (suc at) v) k 0) (add-suc at j ∙ sym (suc-add at j))
    ∙ getD_sets_in (set b at x) (suc at) v j (le_of_suc-le-suc l) (omega (arith, length-set b at x))

-- what was written is there
pub part_sets : (b : List ℕ) (at : ℕ) (v : List ℕ) → at + length v ≤ length b → part at (length v) (sets b at v) ≡ v
part_sets b at v fits =
    part_is at (length v) (sets b at v) v (omega (arith, length-sets b at v)) refl (λ j l. getD_sets_in b at v j l fits)

-- and a part behind it is as it was
pub part_behind_sets : (b : List ℕ) (at : ℕ) (v : List ℕ) (from m : ℕ) → at + length v ≤ from → from + m ≤ length b
    → part from m (sets b at v) ≡ part from m b
part_behind_sets b at v from m behind fits =
    part_is from m (sets b at v) (part from m b) (omega (arith, length-sets b at v)) (length_part from m b fits)
    (λ j l. getD_sets_other b at v (from + j) (inr (omega arith)) ∙ sym (get_d_part from m b j l))

-- writing into the first of two lists, and into the second
sets_cons : (x : ℕ) (l : List ℕ) (at : ℕ) (v : List ℕ) → sets (x ∷ l) (suc at) v ≡ x ∷ sets l at v
sets_cons x l at [] = refl
sets_cons x l at (y ∷ v) = sets_cons x (set l at y) (suc at) v

pub sets_front : (a b : List ℕ) (at : ℕ) (v : List ℕ) → at + length v ≤ length a → sets (a ++ b) at v ≡ sets a at v ++ b
sets_front a b at [] l = refl
sets_front [] b at (x ∷ v) l = absurd (omega arith)
sets_front (y ∷ a) b zero (x ∷ v) l =
    sets_cons x (a ++ b) 0 v ∙ ap (λ (r : List ℕ). x ∷ r) (sets_front a b 0 v (omega arith)) ∙ sym (ap (λ (r : List ℕ). r ++ b) (sets_cons x a 0 v))
sets_front (y ∷ a) b (suc at) (x ∷ v) l =
    sets_cons y (a ++ b) at (x ∷ v) ∙ ap (λ (r : List ℕ). y ∷ r) (sets_front a b at (x ∷ v) (omega arith))
    ∙ sym (ap (λ (r : List ℕ). r ++ b) (sets_cons y a at (x ∷ v)))

pub sets_behind : (a b : List ℕ) (at : ℕ) (v : List ℕ) → sets (a ++ b) (length a + at) v ≡ a ++ sets b at v
sets_behind [] b at v = ap (λ (k : ℕ). sets b k v) (zero-add at)
sets_behind (x ∷ a) b at v =
    ap (λ (k : ℕ). sets (x ∷ (a ++ b)) k v) (suc-add (length a) at) ∙ sets_cons x (a ++ b) (length a + at) v
    ∙ ap (λ (r : List ℕ). x ∷ r) (sets_behind a b at v)

sets_whole : (b v : List ℕ) → length v ≡ length b → sets b 0 v ≡ v
sets_whole [] [] e = refl
sets_whole [] (x ∷ v) e = absurd (omega arith)
sets_whole (y ∷ b) [] e = absurd (omega arith)
sets_whole (y ∷ b) (x ∷ v) e = sets_cons x b 0 v ∙ ap (λ (r : List ℕ). x ∷ r) (sets_whole b v (omega arith))

-- piece k of some pieces of one length, written over
pub sets_in_flat : (m ℓ : ℕ) (f : ℕ → List ℕ) → ((j : ℕ) → j < m → length (f j) ≡ ℓ) → (k : ℕ) (v : List ℕ) → k < m → length v ≡ ℓ
    → sets (flat m f) (k * ℓ) v ≡ flat m (λ j. cond (eqb j k) v (f j))
unfolding flat
sets_in_flat zero ℓ f h k v l e = absurd (not-suc-le-zero l)
sets_in_flat (suc m) ℓ f h k v l e = ⊎_elim last (λ k<m. before k<m (sets_in_flat m ℓ f (λ j l. h j (le_step l)) k v k<m e)) (eq-or-lt_of_le (le_of_suc-le-suc l))
  where
    len : length (flat m f) ≡ m * ℓ
    len = length_flat m ℓ f (λ j l. h j (le_step l))

    last : k ≡ m → sets (flat m f ++ f m) (k * ℓ) v ≡ flat m (λ j. cond (eqb j k) v (f j)) ++ cond (eqb m k) v (f m)
    last k≡m =
        ap (λ (at : ℕ). sets (flat m f ++ f m) at v) (ap (λ (k : ℕ). k * ℓ) k≡m ∙ sym len ∙ sym (add-zero (length (flat m f))))
        ∙ sets_behind (flat m f) (f m) 0 v
        ∙ ap₂ ◌++◌ (flat_cong m (λ j l. sym (ap (λ (b : Bool). cond b v (f j)) (ne_eqb j k (λ q. omega arith)))))
        (sets_whole (f m) v (e ∙ sym (h m (le_refl (suc m)))) ∙ sym (ap (λ (b : Bool). cond b v (f m)) (eq-eqb m k (sym k≡m))))

    before : k < m → sets (flat m f) (k * ℓ) v ≡ flat m (λ j. cond (eqb j k) v (f j))
        → sets (flat m f ++ f m) (k * ℓ) v ≡ flat m (λ j. cond (eqb j k) v (f j)) ++ cond (eqb m k) v (f m)
    before k<m rest =
        sets_front (flat m f) (f m) (k * ℓ) v (omega (arith, len, piece_within ℓ k<m))
        ∙ ap₂ ◌++◌ rest
        (sym (ap (λ (b : Bool). cond b v (f m)) (ne_eqb m k (λ q. omega arith))))

-- what is written in two goes, the second behind the first
pub sets_append : (b : List ℕ) (at : ℕ) (v w : List ℕ) → sets b at (v ++ w) ≡ sets (sets b at v) (at + length v) w
sets_append b at [] w = ap (λ (k : ℕ). sets b k w) (sym (add-zero at))
sets_append b at (x ∷ v) w =
    sets_append (set b at x) (suc at) v w
    ∙ ap (λ (k : ℕ). sets (sets (set b at x) (suc at) v) k w) (suc-add at (length v) ∙ sym (add-suc at (length v)))

pub sets_then : (b : List ℕ) (at : ℕ) (v : List ℕ) (to : ℕ) (w : List ℕ) → to ≡ at + length v → sets (sets b at v) to w ≡ sets b at (v ++ w)
sets_then b at v to w e = rw e (sym (sets_append b at v w))

-- what is written up to the end
pub sets_to_end : (b : List ℕ) (at : ℕ) (v : List ℕ) → at + length v ≡ length b → sets b at v ≡ part 0 at b ++ v
sets_to_end b at v e =
    sets-eq v b at (le_of_eq e)
    ∙ ap (λ (r : List ℕ). (take at b ++ v) ++ r) (ap (λ (k : ℕ). drop k b) e ∙ drop-length b)
    ∙ append-nil (take at b ++ v)
