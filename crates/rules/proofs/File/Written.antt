-- Reading a book that was written, and writing a book that was read: the book is its front and its bodies, one after the other.
-- Assumes nothing.
use Prim.Native.Nat.{ℕ, ◌+◌, ◌*◌, ◌^◌, ◌≤◌, ◌<◌}
use native.Mathlib.Nat.{le_of_eq, zero-add, add-zero}
use native.Mathlib.Omega.{arith}
use mathlib.Core.Path.{◌≡◌, ap, ap₂, sym, ◌∙◌}
use mathlib.Core.List.{List, ◌++◌}
use lib.ListN.{length, length-append}
use lib.Seq.{take_all}
use Rattle.rules.specs.Loops.{flat}
use Rattle.rules.specs.Numbers.{part}
use Rattle.rules.specs.Pile.{Pile}
use Rattle.rules.specs.Layout.{Head, head_of, head_for, body_length, front_length, body_at, book_length, body_view, pile_number, position, pile_of, head_bytes, front_bytes, body_bytes, book_bytes}
use Rattle.rules.proofs.Loops.Pieces.{flat_cong, length_flat, flat_parts, part_add, part_front, part_behind, part_in_flat}
use Rattle.rules.proofs.Bytes.Numbers.{Octets}
use Rattle.rules.proofs.Pile.Agree.{Agree}
use Rattle.rules.proofs.File.Body.{Fits, Fits4, length_body, read_body, write_body, body_cong}
use Rattle.rules.proofs.File.Positions.{front_within, body_start_lem, first_body_lem, body_within, book_end}
use Rattle.rules.proofs.File.Front.{length_front, front_number, front_position, front_cong, write_front}

-- what is written begins with its head: where a proof opens this, the head of written bytes computes
unfoldable pub open_head : Unit {0}
unfolding book_bytes front_bytes head_bytes
open_head = tt

module _ (n p : ℕ) (numbers : ℕ → ℕ) (pile : ℕ → Pile) where
  abbrev head : Head
  head = head_for n p

  abbrev front : List ℕ
  front = front_bytes head numbers

  abbrev bodies : List ℕ
  bodies = flat p (λ k. body_bytes n (pile k))

  pub length_book : length (book_bytes n p numbers pile) ≡ book_length head
  unfolding book_bytes
  length_book =
      omega (
        arith,
        length-append front bodies,
        length_front head numbers,
        length_flat p (body_length n) (λ k. body_bytes n (pile k)) (λ k _. length_body n (pile k)),
        book_end head,
      )

  -- all before the bodies
  pub front_part : part 0 (body_at head 0) (book_bytes n p numbers pile) ≡ front
  unfolding book_bytes
  front_part =
      let long : length front ≡ body_at head 0 = length_front head numbers ∙ sym (first_body_lem head) in
      part_front 0 (body_at head 0) front bodies (omega (arith, long)) ∙ take_all (body_at head 0) front (omega (arith, long))

  -- a part of body k, and the whole body
  pub part_of_body : (k c m : ℕ) → k < p → c + m ≤ body_length n
      → part (body_at head k + c) m (book_bytes n p numbers pile) ≡ part c m (body_bytes n (pile k))
  unfolding book_bytes
  part_of_body k c m l fits =
      let at : body_at head k + c ≡ length front + (k * body_length n + c) = omega (arith, length_front head numbers, body_start_lem head k) in
      ap (λ (at : ℕ). part at m (book_bytes n p numbers pile)) at
      ∙ part_behind (k * body_length n + c) m front bodies
      ∙ part_in_flat p (body_length n) (λ k. body_bytes n (pile k)) (λ k _. length_body n (pile k)) k c m l fits

  body_part_lem : (k : ℕ) → k < p → part (body_at head k) (body_length n) (book_bytes n p numbers pile) ≡ body_bytes n (pile k)
  body_part_lem k l =
      ap (λ (at : ℕ). part at (body_length n) (book_bytes n p numbers pile)) (sym (add-zero (body_at head k)))
      ∙ part_of_body k 0 (body_length n) l (le_of_eq (zero-add (body_length n)))
      ∙ take_all (body_length n) (body_bytes n (pile k)) (le_of_eq (length_body n (pile k)))

  pub read_number : (k : ℕ) → k < p → numbers k < 256 ^ 2 → pile_number (book_bytes n p numbers pile) k ≡ numbers k
  unfolding book_bytes
  read_number k l fits = front_number head numbers bodies k l fits

  pub read_position : (k : ℕ) → k < p → Fits4 (book_length head) → position (book_bytes n p numbers pile) k ≡ body_at head k
  unfolding book_bytes
  read_position k l fits = front_position head numbers bodies k l (omega (arith, body_within head k l))

  pub read_pile : (k : ℕ) → k < p → Fits n (pile k) → Agree n (pile_of (book_bytes n p numbers pile) k) (pile k)
  unfolding pile_of open_head
  read_pile k l fits = read_body n (pile k) fits (book_bytes n p numbers pile) (body_at head k) (body_part_lem k l)

-- a list of bytes with the length, head, numbers, positions and piles of a book is what writing them gives
module _ (n p : ℕ) (numbers : ℕ → ℕ) (pile : ℕ → Pile) (b : List ℕ) (o : Octets b) (len : length b ≡ book_length (head_for n p))
    (same : head_of b ≡ head_for n p)
    (numbered : (k : ℕ) → k < p → pile_number b k ≡ numbers k)
    (placed : (k : ℕ) → k < p → position b k ≡ body_at (head_for n p) k)
    (agree : (k : ℕ) → k < p → Agree n (body_view n b (body_at (head_for n p) k)) (pile k)) where
  write_pile : (k : ℕ) → k < p → body_bytes n (pile k) ≡ part (front_length (head_for n p) + k * body_length n) (body_length n) b
  write_pile k l =
      sym (body_cong n _ (pile k) (agree k l))
      ∙ write_body n b (body_at (head_for n p) k) o (omega (arith, len, body_within (head_for n p) k l))
      ∙ ap (λ (at : ℕ). part at (body_length n) b) (body_start_lem (head_for n p) k)

  pub write_book : book_bytes n p numbers pile ≡ b
  unfolding book_bytes
  write_book =
      let front = front_length (head_for n p) in
      let whole : front + p * body_length n ≡ length b = sym (len ∙ book_end (head_for n p)) in
      ap₂ ◌++◌ (write_front (head_for n p) numbers b o (omega (arith, len, front_within (head_for n p))) same numbered placed)
      (flat_cong p write_pile ∙ flat_parts p (body_length n) front b ∙ ap (λ (at : ℕ). part at (p * body_length n) b) (sym (zero-add front)))
      ∙ sym (part_add 0 front (p * body_length n) b)
      ∙ take_all (front + p * body_length n) b (omega arith)

-- equal numbers and agreeing piles are one book
pub book_cong : (n p : ℕ) (numbers numbers' : ℕ → ℕ) (P Q : ℕ → Pile) → ((k : ℕ) → k < p → numbers k ≡ numbers' k)
    → ((k : ℕ) → k < p → Agree n (P k) (Q k)) → book_bytes n p numbers P ≡ book_bytes n p numbers' Q
unfolding book_bytes
book_cong n p numbers numbers' P Q e a =
    ap₂ ◌++◌ (front_cong (head_for n p) e) (flat_cong p (λ k l. body_cong n (P k) (Q k) (a k l)))
