-- Lists made of m pieces one after the other, and taken apart again: head, contents, bodies, rows and numbers are all such pieces.
-- Assumes nothing.
use Prim.Native.Nat.{ℕ, zero, suc, ◌+◌, ◌*◌, ◌≤◌, ◌<◌}
use native.Mathlib.Nat.{le_refl, le_of_eq, le_step, not-suc-le-zero, le_of_suc-le-suc, eq-or-lt_of_le, zero-add, add-zero, zero-mul, suc-mul, add-suc}
use native.Mathlib.Omega.{arith}
use mathlib.Core.Path.{◌≡◌, refl, ap, ap₂, sym, subst⁻¹, ◌∙◌}
use mathlib.Core.Logic.{⊎_elim}
use mathlib.Core.List.{List, [], ◌∷◌, ◌++◌, append_assoc, append-nil}
use lib.ListN.{length, get_or, take, drop, length-append, length-drop, get_or-append}
use lib.Seq.{take_all, take-add, drop-drop, take-append-le, drop-append-le, drop-append-add, get_or-append-add}
use Rattle.rules.specs.Loops.{flat, list}
use Rattle.rules.specs.Numbers.{part}
use Rattle.rules.proofs.Loops.Ranges.{piece_within}

module _ {A : Type 0} where
  pub flat_cong : (m : ℕ) {f g : ℕ → List A} → ((k : ℕ) → k < m → f k ≡ g k) → flat m f ≡ flat m g
  unfolding flat
  flat_cong zero h = refl
  flat_cong (suc m) h = ap₂ ◌++◌ (flat_cong m (λ k l. h k (le_step l))) (h m (le_refl (suc m)))

  pub length_flat : (m ℓ : ℕ) (f : ℕ → List A) → ((k : ℕ) → k < m → length (f k) ≡ ℓ) → length (flat m f) ≡ m * ℓ
  unfolding flat
  length_flat zero ℓ f h = sym (zero-mul ℓ)
  length_flat (suc m) ℓ f h =
      length-append (flat m f) (f m) ∙ ap₂ ◌+◌ (length_flat m ℓ f (λ k l. h k (le_step l))) (h m (le_refl (suc m))) ∙ sym (suc-mul m ℓ)

  -- what stands at place j of piece k
  pub getD_flat : (m ℓ : ℕ) (f : ℕ → List A) (d : A) → ((k : ℕ) → k < m → length (f k) ≡ ℓ)
      → (k j : ℕ) → k < m → j < ℓ → get_or (flat m f) (k * ℓ + j) d ≡ get_or (f k) j d
  unfolding flat
  getD_flat zero ℓ f d h k j k<m j<ℓ = absurd (not-suc-le-zero k<m)
  getD_flat (suc m) ℓ f d h k j k<m j<ℓ =
      let len : length (flat m f) ≡ m * ℓ = length_flat m ℓ f (λ k l. h k (le_step l)) in
      ⊎_elim
      (λ k≡m. ap (λ (n : ℕ). get_or (flat m f ++ f m) n d) (ap (λ (n : ℕ). n * ℓ + j) k≡m ∙ ap (λ (n : ℕ). n + j) (sym len))
      ∙ get_or-append-add (flat m f) (f m) j d ∙ ap (λ (n : ℕ). get_or (f n) j d) (sym k≡m))
      (λ k<m. get_or-append (flat m f) (f m) d (k * ℓ + j) (omega (arith, piece_within ℓ k<m))
      ∙ getD_flat m ℓ f d (λ k l. h k (le_step l)) k j k<m j<ℓ)
      (eq-or-lt_of_le (le_of_suc-le-suc k<m))

  -- two parts that meet are one
  pub part_add : (at n m : ℕ) (l : List A) → part at (n + m) l ≡ part at n l ++ part (at + n) m l
  part_add at n m l = take-add n m (drop at l) ∙ ap (λ (r : List A). take n (drop at l) ++ take m r) (drop-drop n at l)

  -- a part in the first of two lists, in the second, in a piece, and that is a whole piece
  pub part_front : (at m : ℕ) (a b : List A) → at + m ≤ length a → part at m (a ++ b) ≡ part at m a
  part_front at m a b l =
      ap (take m) (drop-append-le at a b (omega arith))
      ∙ take-append-le m (drop at a) b (subst⁻¹ (λ (n : ℕ). m ≤ n) (length-drop at a) (omega arith))

  pub part_behind : (at m : ℕ) (a b : List A) → part (length a + at) m (a ++ b) ≡ part at m b
  part_behind at m a b = ap (take m) (drop-append-add a b at)

  pub part_in_flat : (m ℓ : ℕ) (f : ℕ → List A) → ((k : ℕ) → k < m → length (f k) ≡ ℓ)
      → (k c n : ℕ) → k < m → c + n ≤ ℓ → part (k * ℓ + c) n (flat m f) ≡ part c n (f k)
  unfolding flat
  part_in_flat zero ℓ f h k c n k<m l = absurd (not-suc-le-zero k<m)
  part_in_flat (suc m) ℓ f h k c n k<m l =
      let len : length (flat m f) ≡ m * ℓ = length_flat m ℓ f (λ k l. h k (le_step l)) in
      ⊎_elim
      (λ k≡m. ap (λ (x : ℕ). part x n (flat m f ++ f m)) (ap (λ (x : ℕ). x * ℓ + c) k≡m ∙ ap (λ (x : ℕ). x + c) (sym len))
      ∙ part_behind c n (flat m f) (f m) ∙ ap (λ (x : ℕ). part c n (f x)) (sym k≡m))
      (λ k<m. part_front (k * ℓ + c) n (flat m f) (f m) (omega (arith, piece_within ℓ k<m))
      ∙ part_in_flat m ℓ f (λ k l. h k (le_step l)) k c n k<m l)
      (eq-or-lt_of_le (le_of_suc-le-suc k<m))

  pub part_flat : (m ℓ : ℕ) (f : ℕ → List A) → ((k : ℕ) → k < m → length (f k) ≡ ℓ)
      → (k : ℕ) → k < m → part (k * ℓ) ℓ (flat m f) ≡ f k
  part_flat m ℓ f h k k<m =
      ap (λ (x : ℕ). part x ℓ (flat m f)) (sym (add-zero (k * ℓ)))
      ∙ part_in_flat m ℓ f h k 0 ℓ k<m (le_of_eq (zero-add ℓ))
      ∙ take_all ℓ (f k) (le_of_eq (h k k<m))

  -- the pieces of a part of a list make it up
  pub flat_parts : (m ℓ at : ℕ) (l : List A) → flat m (λ k. part (at + k * ℓ) ℓ l) ≡ part at (m * ℓ) l
  unfolding flat
  flat_parts zero ℓ at l = sym (ap (λ (n : ℕ). take n (drop at l)) (zero-mul ℓ))
  flat_parts (suc m) ℓ at l =
      ap (λ (r : List A). r ++ part (at + m * ℓ) ℓ l) (flat_parts m ℓ at l)
      ∙ sym (part_add at (m * ℓ) ℓ l)
      ∙ ap (λ (n : ℕ). part at n l) (sym (suc-mul m ℓ))

  pub length_list : (m : ℕ) (f : ℕ → A) → length (list m f) ≡ m
  unfolding list
  length_list m f = length_flat m 1 (λ k. f k ∷ []) (λ k l. refl) ∙ omega arith

  pub getD_list : (m : ℕ) (f : ℕ → A) (d : A) (k : ℕ) → k < m → get_or (list m f) k d ≡ f k
  unfolding list
  getD_list m f d k l =
      ap (λ (n : ℕ). get_or (flat m (λ k. f k ∷ [])) n d) (omega arith)
      ∙ getD_flat m 1 (λ k. f k ∷ []) d (λ k l. refl) k 0 l (le_refl 1)

  pub list_cong : (m : ℕ) {f g : ℕ → A} → ((k : ℕ) → k < m → f k ≡ g k) → list m f ≡ list m g
  unfolding list
  list_cong m h = flat_cong m (λ k l. ap {B = List A} (λ x. x ∷ []) (h k l))

  pub flat_add : (m m' : ℕ) (f : ℕ → List A) → flat (m + m') f ≡ flat m f ++ flat m' (λ k. f (m + k))
  unfolding flat
  flat_add m zero f = ap (λ (n : ℕ). flat n f) (add-zero m) ∙ sym (append-nil (flat m f))
  flat_add m (suc m') f =
      ap (λ (n : ℕ). flat n f) (add-suc m m')
      ∙ ap (λ (r : List A). r ++ f (m + m')) (flat_add m m' f)
      ∙ append_assoc (flat m f) (flat m' (λ k. f (m + k))) (f (m + m'))

  pub list_add : (m m' : ℕ) (f : ℕ → A) → list (m + m') f ≡ list m f ++ list m' (λ k. f (m + k))
  unfolding list
  list_add m m' f = flat_add m m' (λ k. f k ∷ [])

  -- pieces of pieces, as one run of pieces
  pub flat_flat : (p m : ℕ) (f : ℕ → List A) → flat (p * m) f ≡ flat p (λ k. flat m (λ r. f (k * m + r)))
  unfolding flat
  flat_flat zero m f = ap (λ (n : ℕ). flat n f) (zero-mul m)
  flat_flat (suc p) m f =
      ap (λ (n : ℕ). flat n f) (suc-mul p m) ∙ flat_add (p * m) m f
      ∙ ap (λ (r : List A). r ++ flat m (λ r. f (p * m + r))) (flat_flat p m f)
