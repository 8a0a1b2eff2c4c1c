-- An accepted opening: the plain facts that it tells, and that what it writes is a readable book, the start of demand 3.
-- Assumes nothing.
use Prim.Native.Nat.{ℕ, ◌+◌, ◌*◌, ◌≤◌, ◌<◌}
use native.Mathlib.Nat.{le_refl}
use native.Mathlib.Omega.{arith}
use mathlib.Core.Path.{◌≡◌, refl, ap, sym, ◌∙◌}
use mathlib.Core.Bool.{not}
use mathlib.Core.List.{List}
use lib.ListN.{length}
use lib.Seq.{sets}
use borrow.Author.Tests.{eqb-true, ltb-false, le-ltb}
use Rattle.rules.specs.Refusals.{◌when◌, first}
use Rattle.rules.specs.Numbers.{part}
use Rattle.rules.specs.Pile.{opening_lawful}
use Rattle.rules.specs.Layout.{head_for, book_length}
use Rattle.rules.specs.Opening.{given, given_pile, opening_answer, opened, after_opening, Opens, BufferStarts}
use Rattle.rules.specs.Book.{book_answer}
use Rattle.rules.proofs.Loops.Refusals.{when_done, when_not_done, or_else_first, or_else_rest, first_at, when_accepted, none_met, not_met}
use Rattle.rules.proofs.Loops.Sets.{part_sets}
use Rattle.rules.proofs.Pile.Facts.{PileFacts, opening_facts}
use Rattle.rules.proofs.Pile.Fresh.{fresh_lawful}
use Rattle.rules.proofs.File.Written.{length_book}
use Rattle.rules.proofs.File.Readable.{sizes_range}
use Rattle.rules.proofs.File.LawfulBook.{Frame, written_readable}

pub record Accepted (n p : ℕ) (l : List ℕ) (room : ℕ) : Type 0 where
  pub frame : Frame n p (λ k. given n l k 0)
  pub sized : length l ≡ p * (3 + 2 * n)
  pub lawful : first p (λ k. 5 when not (opening_lawful n (given_pile n l k))) ≡ 0
  pub enough : book_length (head_for n p) ≤ room

module _ (n p : ℕ) (l : List ℕ) (room : ℕ) (accepted : opening_answer n p l room ≡ 0) where
  pub accepted_facts : Accepted n p l room
  unfolding opening_answer
  accepted_facts =
      let listed = or_else_rest _ _ accepted in
      let rest = or_else_rest _ _ (or_else_rest _ _ listed) in
      record {
        frame = record {
          sizes = sizes_range _ _ (when_not_done _ _ (or_else_first _ _ accepted));
          rises = when_not_done _ _ (or_else_first _ _ (or_else_rest _ _ listed));
        };
        sized = eqb-true _ _ (when_not_done _ _ (or_else_first _ _ listed));
        lawful = or_else_first _ _ rest;
        enough = ltb-false _ _ (when_done _ _ (or_else_rest _ _ rest));
      }

  pub opened_lawful : (k : ℕ) → k < p → PileFacts n (given_pile n l k)
  unfolding given_pile
  opened_lawful k k<p =
      fresh_lawful n (given_pile n l k) (λ s i. refl) (λ s i j. refl)
      (opening_facts n (given_pile n l k) (when_not_done _ _ (first_at p _ accepted_facts.lawful k k<p)))

  pub opened_readable : book_answer (opened n p l) ≡ 0
  unfolding opened
  opened_readable = written_readable n p (λ k. given n l k 0) accepted_facts.frame (given_pile n l) opened_lawful

-- with more room, or just enough, an opening is answered the same
just_enough : (n p : ℕ) (l : List ℕ) (room : ℕ) → opening_answer n p l room ≡ 0 → Opens n p l
unfolding opening_answer
just_enough n p l room accepted =
    none_met (or_else_first _ _ accepted)
    (none_met (or_else_first _ _ (or_else_rest _ _ accepted))
    (none_met (or_else_first _ _ (or_else_rest _ _ (or_else_rest _ _ accepted)))
    (none_met (or_else_first _ _ (or_else_rest _ _ (or_else_rest _ _ (or_else_rest _ _ accepted)))) (not_met 8 (le-ltb (book_length (head_for n p)) _ (le_refl _))))))

pub buffer_starts : BufferStarts
unfolding after_opening opened
buffer_starts n p l out accepted =
    let len = length_book n p (λ k. given n l k 0) (given_pile n l) in (
      just_enough n p l (length out) accepted,
      ap (part 0 (book_length (head_for n p))) (when_accepted _ _ _ accepted)
          ∙ ap (λ (m : ℕ). part 0 m (sets out 0 (opened n p l))) (sym len)
          ∙ part_sets out 0 (opened n p l) (omega (arith, len, (accepted_facts n p l (length out) accepted).enough)),
    )
