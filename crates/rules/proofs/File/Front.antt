-- The front of a book, head and contents: its length, what is read of it whatever stands behind it, and that bytes with its numbers are it.
-- Assumes nothing.
use Prim.Native.Nat.{ℕ, zero, suc, ◌+◌, ◌*◌, ◌^◌, ◌≤◌, ◌<◌}
use native.Mathlib.Nat.{le_of_eq}
use native.Mathlib.Omega.{arith}
use mathlib.Core.Path.{◌≡◌, refl, ap, ap₂, sym, ◌∙◌}
use mathlib.Core.List.{List, [], ◌∷◌, ◌++◌}
use lib.ListN.{length, get_or, take, length-append}
use lib.Dec.{lit≤, lit<}
use Rattle.rules.specs.Loops.{flat}
use Rattle.rules.specs.Numbers.{number, bytes, part}
use Rattle.rules.specs.Layout.{Head, head_of, body_at, pile_number, position, head_bytes, entry_bytes, front_bytes, entry_at, position_at, front_length}
use Rattle.rules.proofs.Loops.Pieces.{flat_cong, length_flat, flat_parts, part_add}
use Rattle.rules.proofs.Bytes.Numbers.{Octets, octets_bytes, octets_append, octets_flat, length_bytes, number_front, number_append, number_flat, number_bytes, bytes_number}
use Rattle.rules.proofs.File.Positions.{entry_within}

module _ (h : Head) (numbers : ℕ → ℕ) where
  pub length_entry : (k : ℕ) → length (entry_bytes h numbers k) ≡ 6
  unfolding entry_bytes
  length_entry k =
      length-append (bytes 2 (numbers k)) (bytes 4 (body_at h k))
      ∙ ap₂ ◌+◌ (length_bytes 2 (numbers k)) (length_bytes 4 (body_at h k))

  length_contents : length (flat h.piles (entry_bytes h numbers)) ≡ h.piles * 6
  length_contents = length_flat h.piles 6 (entry_bytes h numbers) (λ k _. length_entry k)

  pub length_front : length (front_bytes h numbers) ≡ front_length h
  unfolding front_bytes head_bytes front_length
  length_front = omega (arith, length_contents)

  -- a number of entry k, whatever stands behind the front
  entry_number_lem : (rest : List ℕ) (w k c : ℕ) → k < h.piles → c + w ≤ 6 → number w (front_bytes h numbers ++ rest) (4 + (k * 6 + c)) ≡ number w (entry_bytes h numbers k) c
  unfolding front_bytes head_bytes
  entry_number_lem rest w k c l fits =
      let contents = flat h.piles (entry_bytes h numbers) in
      number_front w (front_bytes h numbers) rest (4 + (k * 6 + c)) (omega (arith, length_front, entry_within h k l))
      ∙ number_append w (head_bytes h) contents (k * 6 + c)
      ∙ number_flat w h.piles 6 (entry_bytes h numbers) (λ k _. length_entry k) k c l fits

  pub front_number : (rest : List ℕ) (k : ℕ) → k < h.piles → numbers k < 256 ^ 2 → pile_number (front_bytes h numbers ++ rest) k ≡ numbers k
  unfolding pile_number entry_bytes
  front_number rest k l fits =
      ap (number 2 (front_bytes h numbers ++ rest)) (omega arith)
      ∙ entry_number_lem rest 2 k 0 l (lit≤ tt)
      ∙ number_front 2 (bytes 2 (numbers k)) (bytes 4 (body_at h k)) 0 (le_of_eq (sym (length_bytes 2 (numbers k))))
      ∙ number_bytes 2 (numbers k) fits

  pub front_position : (rest : List ℕ) (k : ℕ) → k < h.piles → body_at h k < 256 ^ 4 → position (front_bytes h numbers ++ rest) k ≡ body_at h k
  unfolding position entry_bytes
  front_position rest k l fits =
      ap (number 4 (front_bytes h numbers ++ rest)) (omega arith)
      ∙ entry_number_lem rest 4 k 2 l (lit≤ tt)
      ∙ ap (number 4 (entry_bytes h numbers k)) (omega (arith, length_bytes 2 (numbers k)))
      ∙ number_append 4 (bytes 2 (numbers k)) (bytes 4 (body_at h k)) 0
      ∙ number_bytes 4 (body_at h k) fits

  pub octets_front : h.version < 256 → h.desks < 256 → h.piles < 256 → h.fourth < 256 → Octets (front_bytes h numbers)
  unfolding front_bytes head_bytes entry_bytes
  octets_front version desks piles fourth =
      octets_append (head_bytes h) (flat h.piles (entry_bytes h numbers)) head
      (octets_flat h.piles (entry_bytes h numbers)
      (λ k. octets_append (bytes 2 (numbers k)) (bytes 4 (body_at h k)) (octets_bytes 2 (numbers k)) (octets_bytes 4 (body_at h k))))
    where
      head : Octets (head_bytes h)
      head zero = version
      head (suc zero) = desks
      head (suc (suc zero)) = piles
      head (suc (suc (suc zero))) = fourth
      head (suc (suc (suc (suc k)))) = lit< tt

-- numbers that are equal where there are piles give one front
pub front_cong : (h : Head) {numbers numbers' : ℕ → ℕ} → ((k : ℕ) → k < h.piles → numbers k ≡ numbers' k) → front_bytes h numbers ≡ front_bytes h numbers'
unfolding front_bytes entry_bytes
front_cong h e =
    ap (λ (r : List ℕ). head_bytes h ++ r) (flat_cong h.piles (λ k l. ap (λ (x : ℕ). bytes 2 x ++ bytes 4 (body_at h k)) (e k l)))

head_four : (b : List ℕ) → 4 ≤ length b → take 4 b ≡ get_or b 0 0 ∷ get_or b 1 0 ∷ get_or b 2 0 ∷ get_or b 3 0 ∷ []
head_four [] l = absurd (omega arith)
head_four (v ∷ []) l = absurd (omega arith)
head_four (v ∷ n ∷ []) l = absurd (omega arith)
head_four (v ∷ n ∷ p ∷ []) l = absurd (omega arith)
head_four (v ∷ n ∷ p ∷ z ∷ b) l = refl

-- the heads of two books agree where their first four bytes do
pub head_cong : (a b : List ℕ) → ((k : ℕ) → k < 4 → get_or a k 0 ≡ get_or b k 0) → head_of a ≡ head_of b
head_cong a b same =
    ap₂ (λ (v n : ℕ). record { version = v; desks = n; piles = get_or a 2 0; fourth = get_or a 3 0 }) (same 0 (lit< tt)) (same 1 (lit< tt))
    ∙ ap₂ (λ (p z : ℕ). record { version = get_or b 0 0; desks = get_or b 1 0; piles = p; fourth = z }) (same 2 (lit< tt)) (same 3 (lit< tt))

-- bytes with a head, and the numbers and positions of its piles, begin with that front
module _ (h : Head) (numbers : ℕ → ℕ) (b : List ℕ) (o : Octets b) (long : front_length h ≤ length b)
    (same : head_of b ≡ h)
    (numbered : (k : ℕ) → k < h.piles → pile_number b k ≡ numbers k)
    (placed : (k : ℕ) → k < h.piles → position b k ≡ body_at h k) where
  write_head : head_bytes h ≡ part 0 4 b
  unfolding head_bytes front_length
  write_head = ap head_bytes (sym same) ∙ sym (head_four b (omega arith))

  write_entry : (k : ℕ) → k < h.piles → entry_bytes h numbers k ≡ part (entry_at k) 6 b
  unfolding entry_bytes pile_number position
  write_entry k l =
      let behind : position_at k ≡ entry_at k + 2 = omega arith in
      let within = entry_within h k l in
      ap₂ ◌++◌ (ap (bytes 2) (sym (numbered k l)) ∙ bytes_number 2 b (entry_at k) o (omega arith))
      (ap (bytes 4) (sym (placed k l)) ∙ bytes_number 4 b (position_at k) o (omega arith) ∙ ap (λ (at : ℕ). part at 4 b) behind)
      ∙ sym (part_add (entry_at k) 2 4 b)

  pub write_front : front_bytes h numbers ≡ part 0 (front_length h) b
  unfolding front_bytes front_length
  write_front =
      ap₂ ◌++◌ write_head (flat_cong h.piles write_entry ∙ flat_parts h.piles 6 4 b)
      ∙ sym (part_add 0 4 (h.piles * 6) b)
