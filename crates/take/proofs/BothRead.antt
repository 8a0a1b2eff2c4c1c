-- What a take knows of two books once both are read, and of a copy that is refused.
-- Assumes nothing.
use Prim.Native.Nat.{ℕ, suc, ◌+◌, ◌*◌, ◌≤◌}
use mathlib.Core.Path.{◌≡◌, ap, sym, subst⁻¹, ◌∙◌}
use mathlib.Core.Logic.{◌≢◌}
use mathlib.Core.Bool.{Bool, true, false}
use mathlib.Core.List.{List}
use lib.Dec.{eqb}
use borrow.Author.Tests.{ne_eqb}
use Rattle.std.specs.Prelude.{Result, Ok, Err, is_ok, MatchResult}
use Rattle.rules.specs.Loops.{◌and◌, every}
use Rattle.rules.specs.Refusals.{first}
use Rattle.rules.specs.Layout.{Head, head_of, row_length, front_length, desks, piles, book_length, pile_number}
use Rattle.rules.specs.Rows.{compared, is_alike}
use Rattle.rules.specs.Take.{row_part, row_answer, same_book}
use Rattle.rules.proofs.Loops.Logic.{and_right, and_left_fails, and_right_fails}
use Rattle.rules.proofs.Loops.Every.{every_at}
use Rattle.rules.proofs.File.Readable.{BookFacts}
use Rattle.rules.proofs.Take.InPlace.{same_head, same_piles_test}
use Rattle.refusal.specs.declared.Refusal.{Refusal}
use Rattle.refusal.specs.Answers.{number_of, answered}
use Rattle.refusal.proofs.Refused.{number_is_not_0}
use Rattle.take.specs.Inner.{Alongside, opening_part, compared_at, PilesAhead}
use Rattle.take.proofs.InOrder.{rows_in_both, opening_kept, rows_answer}

-- a call that is done is answered 0
pub read : {A : Type 0} (told : Result A Refusal) {answer : ℕ} → true ≡ is_ok told → answered told ≡ answer → answer ≡ 0
read (Ok x) ok e = sym e
read (Err refusal) ok e = cc

-- and one that is refused with a book's number is refused with the copy's
pub refused_as_copy : {A : Type 0} (told : Result A Refusal) (refusal : Refusal) {answer : ℕ} → answered told ≡ answer → answer ≤ 7
    → MatchResult told (λ x. Err refusal ≡ Ok x) (λ e. number_of e ≤ 7 → number_of refusal ≡ 20 + number_of e)
    → (number_of refusal ≡ 20 + answered told) × (answered told ≢ 0)
refused_as_copy (Ok x) refusal e most told = cc
refused_as_copy (Err own) refusal e most told = (told (rw e most), number_is_not_0 own)

-- where both have as many desks and piles, testing pile by pile tells whether they are one book
module _ (own copy : List ℕ) where
  pub other_desks : desks own ≢ desks copy → same_book own copy ≡ false
  unfolding same_book
  other_desks d = and_left_fails (ne_eqb _ _ d) _

  pub other_piles : piles own ≢ piles copy → same_book own copy ≡ false
  unfolding same_book
  other_piles d = and_right_fails _ (and_left_fails (ne_eqb _ _ d) _)

  module _ (f : BookFacts own) (g : BookFacts copy) {h : Head} (head_is : h ≡ head_of own) (same_n : desks own ≡ desks copy) (same_p : piles own ≡ piles copy) where
    pub alongside : Alongside h own copy
    alongside =
        subst⁻¹ (λ (h : Head). Alongside h own copy) head_is (record {
          sizes = f.sizes;
          own_sized = f.sized;
          copy_sized = g.sized ∙ sym (ap book_length (same_head _ _ f g same_n same_p));
        })

    abbrev pub agree : Bool
    agree =
        every h.piles (λ k. eqb (pile_number own k) (pile_number copy k) and is_alike (compared (opening_part h k own) (opening_part h k copy)))

    pub test : agree ≡ same_book own copy
    test = rw head_is (same_piles_test _ _ f g same_n same_p)

    pub piles_ahead : agree ≡ true → PilesAhead h own copy
    piles_ahead e =
        let same = rw head_is at e in
        subst⁻¹ (λ (h : Head). PilesAhead h own copy) head_is (record {
          sizes = f.sizes;
          rows = rows_in_both _ _ f g same_n same_p;
          openings = λ k l. opening_kept _ _ f g same_n same_p k (and_right _ _ (every_at _ _ same k l));
        })

    pub judged : (d : ℕ)
        → first h.piles (λ k. first h.desks (λ i. row_answer (eqb i d) (compared_at (front_length h) (row_length h.desks) own copy (k * suc h.desks + suc i))))
        ≡ first (piles own) (λ k. first (desks own) (λ i. row_answer (eqb i d) (compared (row_part own k (suc i)) (row_part copy k (suc i)))))
    judged d = rw head_is (rows_answer _ _ f g same_n same_p d)
