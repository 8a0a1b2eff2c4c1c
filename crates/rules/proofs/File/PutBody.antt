-- A body of a book written over: it is the book with that one pile replaced.
-- Assumes nothing.
use Prim.Native.Nat.{ℕ, ◌+◌, ◌*◌, ◌<◌}
use native.Mathlib.Omega.{arith}
use mathlib.Core.Path.{◌≡◌, refl, ap, ap₂, sym, ◌∙◌}
use mathlib.Core.Bool.{Bool, true, false, cond}
use mathlib.Core.List.{List, ◌++◌}
use lib.ListN.{length}
use lib.Seq.{sets}
use lib.Dec.{eqb}
use Rattle.history.proofs.Sets.{cases}
use Rattle.rules.specs.Loops.{flat}
use Rattle.rules.specs.Pile.{Pile}
use Rattle.rules.specs.Layout.{head_of, head_for, Head, body_length, body_at, desks, piles, pile_number, pile_of, front_bytes, body_bytes, book_bytes}
use Rattle.rules.specs.Book.{book_answer}
use Rattle.rules.proofs.Loops.Pieces.{flat_cong}
use Rattle.rules.proofs.Loops.Sets.{sets_behind, sets_in_flat}
use Rattle.rules.proofs.Bytes.Numbers.{Octets}
use Rattle.rules.proofs.Pile.Facts.{PileFacts}
use Rattle.rules.proofs.File.Body.{length_body}
use Rattle.rules.proofs.File.Positions.{body_start_lem}
use Rattle.rules.proofs.File.Front.{length_front}
use Rattle.rules.proofs.File.Readable.{book_facts, head_read, rewritten}
use Rattle.rules.proofs.File.LawfulBook.{Lawful}

abbrev pub replaced : (ℕ → Pile) → ℕ → Pile → ℕ → Pile
replaced P k q j = cond (eqb j k) q (P j)

pub replaced_lawful : (n p : ℕ) (P : ℕ → Pile) (k : ℕ) (q : Pile) → Lawful n p P → PileFacts n q → Lawful n p (replaced P k q)
replaced_lawful n p P k q lawful f j l = cases (PileFacts n) (eqb j k) (λ _. f) (λ _. lawful j l)

body_of : (n : ℕ) (p q : Pile) (b : Bool) → cond b (body_bytes n p) (body_bytes n q) ≡ body_bytes n (cond b p q)
body_of n p q true = refl
body_of n p q false = refl

pub put_body : (n p : ℕ) (numbers : ℕ → ℕ) (P : ℕ → Pile) (k : ℕ) (q : Pile) → k < p
    → sets (book_bytes n p numbers P) (body_at (head_for n p) k) (body_bytes n q) ≡ book_bytes n p numbers (replaced P k q)
unfolding book_bytes
put_body n p numbers P k q l =
    let front = front_bytes (head_for n p) numbers in
    let at : body_at (head_for n p) k ≡ length front + k * body_length n = omega (arith, length_front (head_for n p) numbers, body_start_lem (head_for n p) k) in
    ap (λ (at : ℕ). sets (book_bytes n p numbers P) at (body_bytes n q)) at
    ∙ sets_behind front (flat p (λ j. body_bytes n (P j))) (k * body_length n) (body_bytes n q)
    ∙ ap (λ (r : List ℕ). front ++ r)
    (sets_in_flat p (body_length n) (λ j. body_bytes n (P j)) (λ j _. length_body n (P j)) k (body_bytes n q) l (length_body n q)
    ∙ flat_cong p (λ j _. body_of n q (P j) (eqb j k)))

-- and of a readable book
pub overwritten : (b : List ℕ) → Octets b → book_answer b ≡ 0 → (k : ℕ) → k < piles b → (q : Pile)
    → sets b (body_at (head_of b) k) (body_bytes (desks b) q) ≡ book_bytes (desks b) (piles b) (pile_number b) (replaced (pile_of b) k q)
overwritten b o readable k l q =
    ap₂ (λ (r : List ℕ) (h : Head). sets r (body_at h k) (body_bytes (desks b) q)) (sym (rewritten b o readable)) (head_read b (book_facts b readable))
    ∙ put_body (desks b) (piles b) (pile_number b) (pile_of b) k q l
