-- An act on a book, from what is told of its pile and read of its body: the lines of the table in their order, and the one tally that is written.
-- Assumes nothing.
use Prim.Native.Nat.{ℕ, suc, ◌+◌, ◌*◌, ◌≤◌}
use native.Mathlib.Nat.{mul-le-mul}
use native.Mathlib.Numerals.{add-one}
use native.Mathlib.Omega.{arith}
use mathlib.Core.Path.{◌≡◌, refl, ap, sym, ◌∙◌}
use mathlib.Core.Logic.{◌≢◌}
use mathlib.Core.Bool.{Bool}
use mathlib.Core.List.{List}
use lib.ListN.{length}
use lib.Dec.{ltb, eqb}
use borrow.Author.Tests.{le-ltb}
use Rattle.std.proofs.Common.{Result, IsErrAnd}
use Rattle.refusal.specs.declared.Refusal.{Refusal}
use Rattle.refusal.specs.Answers.{number_of, answered}
use Rattle.refusal.proofs.Refused.{number_is_not_0, handed_on}
use Rattle.rules.specs.Loops.{◌or◌}
use Rattle.rules.specs.Refusals.{◌when◌, ◌or_else◌}
use Rattle.rules.specs.Numbers.{number, put_answer, after_put}
use Rattle.rules.specs.Pile.{Side, tally_limit, amount_limit}
use Rattle.rules.specs.Acts.{Kind, spend, give, Act, side, tally, receiver_wrong, act_refusal}
use Rattle.rules.specs.Layout.{head_of, row_length, cell_at, act_column, body_at, body_view, desks, pile_of}
use Rattle.rules.specs.Book.{place, desk_answer, act_answer, tally_at, after_act}
use Rattle.rules.proofs.Loops.Refusals.{own_refusal, or_else_passes, not_met, when_accepted}
use Rattle.rules.proofs.Bytes.Put.{put_fits}
use Rattle.rules.proofs.File.Refused.{act_refused}
use Rattle.rules.proofs.File.AfterAct.{act_within}
use Rattle.rules.specs.Record.{desk_start, desk_count}
use Rattle.rules.proofs.File.Found.{found_readable, found_desk}
use Rattle.rules.proofs.File.Readable.{book_facts}
use Rattle.rules.proofs.Record.OfBody.{found_start, found_count}
use Rattle.audit.specs.Audits.{rights_in}
use Rattle.book.proofs.Bodies.{rights_there}

-- a tally's position in a body is small, whoever the receiver is
pub cell_most : (n row column : ℕ) → n ≤ 255 → row ≤ 255 → column ≤ 65535 → cell_at n row column ≤ 784380
unfolding cell_at row_length
cell_most n row column n≤ row≤ column≤ =
    let length≤ : 8 * (n + 1) ≤ 2048 = omega arith in
    omega (arith, mul-le-mul row≤ length≤)

module _ (i : ℕ) (a : Act) (b : List ℕ) where
  -- a refused act leaves the book as it was
  pub entry_refused : {A : Type 0} (r : Result A Refusal) (refusal : Refusal) → IsErrAnd r (λ e. e ≡ refusal) → number_of refusal ≡ act_answer i a b
      → record { answer : answered r ≡ act_answer i a b; book : b ≡ after_act i a b }
  entry_refused r refusal h e =
      record { answer = handed_on r refusal h ∙ e; book = sym (act_refused i a b (λ z. number_is_not_0 refusal (e ∙ z))) }

  -- the book's own refusal, 11 or 10
  pub own_answer : {refusal : ℕ} → refusal ≡ desk_answer i b a.pile → refusal ≢ 0 → refusal ≡ act_answer i a b
  unfolding act_answer
  own_answer told d = own_refusal told d _

  -- the pile was found, in a book that has the desk
  module _ (found : desk_answer i b a.pile ≡ 0) where
    pub desk_few : i + 1 ≤ 8
    desk_few = omega (arith, found_desk i b a.pile found, (book_facts b (found_readable i b a.pile found)).sizes.desks_most)

    pub desks_few : {n : ℕ} → n ≡ desk_count i b a.pile → n ≤ 8
    desks_few is = omega (arith, is, found_count i b a.pile found, (book_facts b (found_readable i b a.pile found)).sizes.desks_most)

    -- and its tally was read of its body, in the desk's row
    module _ {start n : ℕ} (start_is : start ≡ desk_start i b a.pile) (count_is : n ≡ desk_count i b a.pile) {column at x : ℕ}
        (in_row : column ≡ act_column n a.kind) (placed : at ≡ start + cell_at n (i + 1) column) (read : x ≡ number 4 b at) where
      counted : n ≡ desks b
      counted = count_is ∙ found_count i b a.pile found

      cell_is : at ≡ tally_at i a b
      unfolding tally_at
      cell_is = rw (placed, in_row, start_is, counted, found_start i b a.pile found, add-one)

      tally_is : x ≡ tally (pile_of b (place b a.pile)) i a.kind
      unfolding tally_at pile_of
      tally_is = read ∙ ap (number 4 b) cell_is ∙ by_kind a.kind
        where
          by_kind : (k : Kind) → number 4 b (body_at (head_of b) (place b a.pile) + cell_at (desks b) (suc i) (act_column (desks b) k))
              ≡ tally (body_view (desks b) b (body_at (head_of b) (place b a.pile))) i k
          by_kind (spend s) = refl
          by_kind (give s j) = refl

      pub lines_answer : {wrong : Bool} {s : Side} {left m : ℕ} → wrong ≡ receiver_wrong n i a.kind → s ≡ side a.kind → left ≡ rights_in s n start b i
          → m ≡ 12 when wrong or_else 13 when (eqb a.amount 0 or ltb amount_limit a.amount) or_else 14 when ltb left a.amount or_else 15 when ltb tally_limit (x + a.amount)
          → m ≡ act_answer i a b
      unfolding act_answer act_refusal
      lines_answer receiver of-side left e =
          e
          ∙ rw (receiver, left, of-side, counted, rights_there i b a.pile found start_is (side a.kind), tally_is)
          (sym (or_else_passes found _))

      -- the tally has its room there
      pub entered : act_answer i a b ≡ 0 → {m : ℕ} {after : List ℕ} → m ≡ put_answer 4 b at → after ≡ after_put 4 b at (x + a.amount)
          → record { answer : m ≡ act_answer i a b; book : after ≡ after_act i a b }
      unfolding after_act put_answer
      entered accepted told put =
          let within = act_within i a b accepted in
          record {
            answer = told ∙ not_met 8 (le-ltb (length b) (at + 4) (omega (arith, cell_is, within))) ∙ sym accepted;
            book = put ∙ rw (cell_is, tally_is) (put_fits 4 b (tally_at i a b) _ within) ∙ sym (when_accepted _ _ _ accepted);
          }
