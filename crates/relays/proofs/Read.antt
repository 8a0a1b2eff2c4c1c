-- A readable file is that of the book it holds, which is lawful and passes the check; and two files that meet neither 30 nor 31 hold related books.
-- Assumes nothing.
use Prim.Native.Nat.{ℕ, suc, ◌<◌}
use mathlib.Core.Path.{◌≡◌, refl, ap, ap₂, sym, subst, ◌∙◌}
use mathlib.Core.Bool.{true, false}
use mathlib.Core.List.{List, []}
use lib.ListN.{length, get_or}
use borrow.Author.Tests.{eqb-true}
use Rattle.rules.specs.Numbers.{Octets}
use Rattle.rules.specs.Pile.{Side, draw, tip, Pile, lawful, pile_answer, same_opening}
use Rattle.rules.specs.Layout.{column, desks, piles, pile_number, pile_of, row_of, body_row}
use Rattle.rules.specs.Rows.{is_split, compared}
use Rattle.rules.specs.Book.{book_answer}
use Rattle.rules.specs.Take.{row_part, same_book}
use Rattle.rules.proofs.Loops.Logic.{and_left, and_right}
use Rattle.rules.proofs.Loops.Every.{every_at}
use Rattle.rules.proofs.Loops.Refusals.{when_done, when_not_done, or_else_first, or_else_rest, first_at}
use Rattle.rules.proofs.Loops.Pieces.{length_list, getD_list}
use Rattle.rules.proofs.Pile.Facts.{both_at}
use Rattle.rules.proofs.Pile.Agree.{Agree, answer_cong}
use Rattle.rules.proofs.File.Body.{row_column, length_numbers, row_cong}
use Rattle.rules.proofs.File.Written.{book_cong}
use Rattle.rules.proofs.File.Readable.{BookFacts, book_facts, rewritten}
use Rattle.rules.proofs.File.LawfulBook.{Frame, readable_frame}
use Rattle.rules.proofs.Take.InPlace.{OneBook, one_book_facts, copy_done}
use Rattle.relays.specs.Join.{Body, desk_row, body_in, row, pile_in, order}
use Rattle.relays.specs.Laws.{LawfulBody, LawfulBook, OneOpening, PassesCheck}
use Rattle.relays.specs.Files.{body_held, book_of, file, join_answer}
use Rattle.relays.proofs.Checked.{Checked}
use Rattle.relays.proofs.Written.{compared_order}

-- the body of a pile reads as that pile
body_agrees : (n : ℕ) (q : Pile) → Agree n (pile_in n (body_held n q)) q
unfolding body_row row_of
body_agrees n q =
    record {
      floor = refl;
      top = refl;
      share = λ s i l. row_column n q.floor q.top q.share s i l;
      earned = earned;
      give = λ s i j l m. ap (λ (r : List ℕ). get_or r (column n s j) 0) (row_is i l) ∙ row_column n (q.earned draw i) (q.earned tip i) (λ s. q.give s i) s j m;
    }
  where
    row_is : (i : ℕ) → i < n → desk_row (body_held n q) i ≡ body_row n q (suc i)
    row_is i l = getD_list n _ [] i l

    earned : (s : Side) (i : ℕ) → i < n → (pile_in n (body_held n q)).earned s i ≡ q.earned s i
    earned draw i l = ap (λ (r : List ℕ). get_or r 0 0) (row_is i l)
    earned tip i l = ap (λ (r : List ℕ). get_or r 1 0) (row_is i l)

body_passes : (n : ℕ) (q : Pile) → pile_answer n q ≡ 0 → pile_answer n (pile_in n (body_held n q)) ≡ 0
body_passes n q e = answer_cong n _ q (body_agrees n q) ∙ e

-- what passes the check passes 7
passes_lawful : (n : ℕ) (q : Pile) → pile_answer n q ≡ 0 → lawful n q ≡ true
unfolding pile_answer
passes_lawful n q e = when_not_done 6 (lawful n q) (or_else_rest _ _ (or_else_rest _ _ e))

body_lawful : (n : ℕ) (q : Pile) → pile_answer n q ≡ 0 → LawfulBody n (body_held n q)
body_lawful n q e =
    record {
      opening = length_numbers n q 0;
      desks = length_list n _;
      rows = λ i l. ap length (getD_list n _ [] i l) ∙ length_numbers n q (suc i);
      none_negative = passes_lawful n _ (body_passes n q e);
    }

-- openings that 30 lets pass have the same numbers
opening_row : (n : ℕ) (q r : Pile) → same_opening n q r ≡ true → body_row n q 0 ≡ body_row n r 0
unfolding same_opening body_row
opening_row n q r e =
    row_cong n q.share r.share (λ s i l. eqb-true _ _ (both_at _ (every_at n _ (and_right _ _ (and_right _ _ e)) i l) s)) (eqb-true _ _ (and_left _ _ e))
    (eqb-true _ _ (and_left _ _ (and_right _ _ e)))

-- the body of pile k in the book that a file holds
body_of_file : (b : List ℕ) (k : ℕ) → k < piles b → body_in (book_of b) k ≡ body_held (desks b) (pile_of b k)
unfolding book_of
body_of_file b k l = getD_list (piles b) _ _ k l

module _ (b : List ℕ) (readable : book_answer b ≡ 0) where
  abbrev read : BookFacts b
  read = book_facts b readable

  held_lawful : LawfulBook (desks b) (piles b) (book_of b)
  unfolding book_of
  held_lawful =
      record {
        piles = length_list (piles b) _;
        bodies = λ k l. subst (LawfulBody (desks b)) (sym (body_of_file b k l)) (body_lawful (desks b) (pile_of b k) (read.bodies k l));
      }

  held_passes : PassesCheck (desks b) (piles b) (book_of b)
  held_passes k l =
      subst (λ (x : Body). pile_answer (desks b) (pile_in (desks b) x) ≡ 0) (sym (body_of_file b k l)) (body_passes (desks b) (pile_of b k) (read.bodies k l))

  -- a readable file is that of its book, under any sizes and pile numbers that are equal to its own
  abbrev Held : (n p : ℕ) → (ℕ → ℕ) → Type 0
  Held n p pile_numbers = (file n p pile_numbers (book_of b) ≡ b) × LawfulBook n p (book_of b) × PassesCheck n p (book_of b)

  held : Octets b → (n p : ℕ) (pile_numbers : ℕ → ℕ) → desks b ≡ n → piles b ≡ p → ((k : ℕ) → k < p → pile_numbers k ≡ pile_number b k) → Held n p pile_numbers
  unfolding file
  held octets n p pile_numbers n-is p-is numbered =
      subst (λ (n : ℕ). Held n p pile_numbers) n-is
      (subst (λ (p : ℕ). ((k : ℕ) → k < p → pile_numbers k ≡ pile_number b k) → Held (desks b) p pile_numbers) p-is
      (λ numbered. (
        book_cong (desks b) (piles b) pile_numbers (pile_number b) _ (pile_of b) numbered
            (λ k l. subst (λ (x : Body). Agree (desks b) (pile_in (desks b) x) (pile_of b k)) (sym (body_of_file b k l)) (body_agrees (desks b) (pile_of b k)))
            ∙ rewritten b octets readable,
        held_lawful,
        held_passes,
      )) numbered)

-- two files that meet none of the join's refusals
module _ (a b : List ℕ) (met : join_answer a b ≡ 0) where
  pub first_readable : book_answer a ≡ 0
  unfolding join_answer
  first_readable = or_else_first _ _ met

  pub second_readable : book_answer b ≡ 0
  unfolding join_answer
  second_readable = copy_done _ (or_else_first _ _ (or_else_rest _ _ met))

  pub same_book_lem : same_book a b ≡ true
  unfolding join_answer
  same_book_lem = when_not_done _ _ (or_else_first _ _ (or_else_rest _ _ (or_else_rest _ _ met)))

  one_book : OneBook a b
  one_book = one_book_facts a b same_book_lem

  pub rows_whole : (k i : ℕ) → k < piles a → i < desks a → is_split (compared (row_part a k (suc i)) (row_part b k (suc i))) ≡ false
  unfolding join_answer
  rows_whole k i l m =
      when_done _ _ (first_at (desks a) _ (first_at (piles a) _ (or_else_rest _ _ (or_else_rest _ _ (or_else_rest _ _ met))) k l) i m)

  openings : OneOpening (piles a) (book_of a) (book_of b)
  openings k l =
      ap (λ (x : Body). x.opening) (body_of_file a k l)
      ∙ opening_row (desks a) (pile_of a k) (pile_of b k) (one_book.openings k l)
      ∙ ap (λ (n : ℕ). body_row n (pile_of b k) 0) one_book.same_n
      ∙ sym (ap (λ (x : Body). x.opening) (body_of_file b k (subst (λ (p : ℕ). k < p) one_book.same_p l)))

  module _ (octets-a : Octets a) (octets-b : Octets b) where
    abbrev n : ℕ
    n = desks a

    abbrev p : ℕ
    p = piles a

    first_held : Held a first_readable n p (pile_number a)
    first_held = held a first_readable octets-a n p (pile_number a) refl refl (λ k l. refl)

    second_held : Held b second_readable n p (pile_number a)
    second_held = held b second_readable octets-b n p (pile_number a) (sym one_book.same_n) (sym one_book.same_p) one_book.numbers

    pub frame : Frame n p (pile_number a)
    frame = readable_frame a (book_facts a first_readable)

    pub first_file : file n p (pile_number a) (book_of a) ≡ a
    first_file = first_held.0

    pub second_file : file n p (pile_number a) (book_of b) ≡ b
    second_file = second_held.0

    pub rows_compared : (k i : ℕ) → k < p → i < n → order n (row (book_of a) k i) (row (book_of b) k i) ≡ compared (row_part a k (suc i)) (row_part b k (suc i))
    rows_compared k i l m =
        sym (compared_order n p (pile_number a) frame (book_of a) (book_of b) first_held.2 second_held.2 k i l m)
        ∙ ap₂ (λ (x y : List ℕ). compared (row_part x k (suc i)) (row_part y k (suc i))) first_file second_file

    pub checked : Checked n p (book_of a) (book_of b)
    checked =
        record {
          related =
              record {
                first = first_held.1;
                second = second_held.1;
                opening = openings;
                no_split = λ k i l m. ap is_split (rows_compared k i l m) ∙ rows_whole k i l m;
              };
          first = first_held.2;
          second = second_held.2;
        }

-- with a third file: what is said of the sizes of the second holds of those of the first, and the three are files of the books that they hold
pub under_first : (P : ℕ → ℕ → Type 0) (a b : List ℕ) → join_answer a b ≡ 0 → P (desks b) (piles b) → P (desks a) (piles a)
under_first P a b ab held =
    subst (λ (n : ℕ). P n (piles a)) (sym (one_book a b ab).same_n) (subst (P (desks b)) (sym (one_book a b ab).same_p) held)

pub as_files : (P : List ℕ → List ℕ → List ℕ → Type 0) (a b c : List ℕ) → Octets a → Octets b → Octets c → join_answer a b ≡ 0 → join_answer a c ≡ 0
    → (let at = file (desks a) (piles a) (pile_number a) in P (at (book_of a)) (at (book_of b)) (at (book_of c))) → P a b c
as_files P a b c oa ob oc ab ac held =
    let at = file (desks a) (piles a) (pile_number a) in
    subst (P a b) (second_file a c ac oa oc)
    (subst (λ (x : List ℕ). P a x (at (book_of c))) (second_file a b ab oa ob)
    (subst (λ (x : List ℕ). P x (at (book_of b)) (at (book_of c))) (first_file a b ab oa ob) held))
