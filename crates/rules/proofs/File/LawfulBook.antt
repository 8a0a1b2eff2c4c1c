-- A book written from lawful piles under rising numbers is readable, and its bytes are bytes.
-- Assumes nothing.
use Prim.Native.Nat.{ℕ, suc, ◌<◌}
use native.Mathlib.Omega.{arith}
use mathlib.Core.Path.{◌≡◌, refl, ap, ◌∙◌}
use mathlib.Core.Bool.{true}
use mathlib.Core.List.{List}
use lib.Dec.{lit<, eqb}
use Rattle.rules.specs.Loops.{flat, index}
use Rattle.rules.specs.Numbers.{encode}
use Rattle.rules.specs.Pile.{Pile}
use Rattle.rules.specs.Layout.{Sizes, head_for, desks, piles, pile_number, pile_of, front_bytes, body_bytes, body_row, book_bytes}
use Rattle.rules.specs.Opening.{rising}
use Rattle.rules.specs.Book.{book_answer, place}
use Rattle.rules.proofs.Loops.Every.{index_cong}
use Rattle.rules.proofs.Bytes.Numbers.{Octets, octets_append, octets_flat, octets_encode}
use Rattle.rules.proofs.Pile.Facts.{PileFacts, passes}
use Rattle.rules.proofs.Pile.Agree.{Agree, agree_sym, facts_cong}
use Rattle.rules.proofs.File.Body.{lawful_fits}
use Rattle.rules.proofs.File.Positions.{lengths}
use Rattle.rules.proofs.File.Front.{octets_front}
use Rattle.rules.proofs.File.Written.{open_head, length_book, read_number, read_position, read_pile}
use Rattle.rules.proofs.File.Readable.{BookFacts, book_passes}
use Rattle.rules.proofs.File.Rising.{rising_cong, number_most}

-- the numbers of desks and piles are in range, and the pile numbers rise
pub record Frame (n p : ℕ) (numbers : ℕ → ℕ) : Type 0 where
  pub sizes : Sizes n p
  pub rises : rising p numbers ≡ true

pub readable_frame : (b : List ℕ) → BookFacts b → Frame (desks b) (piles b) (pile_number b)
readable_frame b f = record { sizes = f.sizes; rises = f.rises }

abbrev pub Lawful : ℕ → ℕ → (ℕ → Pile) → Type 0
Lawful n p P = (k : ℕ) → k < p → PileFacts n (P k)

module _ (n p : ℕ) (numbers : ℕ → ℕ) (frame : Frame n p numbers) (pile : ℕ → Pile) where
  pub written_octets : Octets (book_bytes n p numbers pile)
  unfolding book_bytes body_bytes
  written_octets =
      octets_append (front_bytes (head_for n p) numbers) (flat p (λ k. body_bytes n (pile k)))
      (octets_front (head_for n p) numbers (lit< tt) (omega (arith, frame.sizes.desks_most)) (omega (arith, frame.sizes.piles_most)) (lit< tt))
      (octets_flat p (λ k. body_bytes n (pile k))
      (λ k. octets_flat (suc n) (λ r. encode (body_row n (pile k) r)) (λ r. octets_encode (body_row n (pile k) r))))

  pub written_number : (k : ℕ) → k < p → pile_number (book_bytes n p numbers pile) k ≡ numbers k
  written_number k l = read_number n p numbers pile k l (number_most p numbers frame.rises k l)

  pub written_place : (number : ℕ) → place (book_bytes n p numbers pile) number ≡ index p (λ k. eqb (numbers k) number)
  unfolding place open_head
  written_place number = index_cong p _ _ (λ k l. ap (λ (x : ℕ). eqb x number) (written_number k l))

  module _ (lawful : Lawful n p pile) where
    pub written_pile : (k : ℕ) → k < p → Agree n (pile_of (book_bytes n p numbers pile) k) (pile k)
    written_pile k l = read_pile n p numbers pile k l (lawful_fits n (pile k) (lawful k l))

    pub written_facts : BookFacts (book_bytes n p numbers pile)
    unfolding open_head
    written_facts =
        let size = lengths n p frame.sizes in
        record {
          long = omega (arith, length_book n p numbers pile, size.0);
          version = refl;
          fourth = refl;
          sizes = frame.sizes;
          sized = length_book n p numbers pile;
          rises = rising_cong p _ numbers written_number ∙ frame.rises;
          placed = λ k l. read_position n p numbers pile k l (omega (arith, size.1));
          bodies = λ k l. passes n _ (facts_cong n (pile k) _ (agree_sym (written_pile k l)) (lawful k l));
        }

    pub written_readable : book_answer (book_bytes n p numbers pile) ≡ 0
    written_readable = book_passes _ written_facts
