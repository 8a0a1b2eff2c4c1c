-- The contents of a book: the lines of the table in their order, how many entries are filled, and what is left when they are.
-- Assumes nothing.
use Prim.Native.Nat.{ℕ, ◌≤◌, ◌<◌}
use native.Mathlib.Nat.{eq-zero-or-pos}
use native.Mathlib.Omega.{arith}
use mathlib.Core.Path.{◌≡◌, sym}
use mathlib.Core.Logic.{◌≢◌, ⊎_elim}
use mathlib.Core.List.{List, ◌++◌}
use lib.ListN.{length, drop}
use borrow.Author.Tests.{lt-ltb, le-ltb, ltb-false}
use Rattle.rules.specs.Loops.{list, flat}
use Rattle.rules.specs.Refusals.{◌when◌, ◌or_else◌, done}
use Rattle.rules.specs.Layout.{pile_limit, piles, pile_number, position}
use Rattle.rules.specs.Book.{book_answer, contents_answer, after_contents}
use Rattle.rules.proofs.Loops.Refusals.{own_refusal, or_else_first, or_else_rest, when_done, when_accepted, when_refused}
use Rattle.rules.proofs.File.Readable.{book_facts}

module _ (b : List ℕ) (room : ℕ) where
  pub contents_own : {m : ℕ} → m ≡ book_answer b → m ≢ 0 → m ≡ contents_answer b room
  unfolding contents_answer
  contents_own e d = own_refusal e d _

  pub contents_8 : book_answer b ≡ 0 → room < piles b → 8 ≡ contents_answer b room
  unfolding contents_answer ◌when◌ ◌or_else◌
  contents_8 own short = rw (own, lt-ltb _ _ short)

  pub contents_0 : book_answer b ≡ 0 → piles b ≤ room → 0 ≡ contents_answer b room
  unfolding contents_answer ◌when◌ ◌or_else◌
  contents_0 own enough = rw (own, le-ltb _ _ enough)

  -- an accepted call has room for the contents, of at most 32 entries
  room_enough : contents_answer b room ≡ 0 → (piles b ≤ room) × (piles b ≤ pile_limit)
  unfolding contents_answer
  room_enough e = (ltb-false _ _ (when_done _ _ (or_else_rest _ _ e)), (book_facts b (or_else_first _ _ e)).sizes.piles_most)

  -- how many entries are filled: none where the call is refused
  abbrev pub entries_filled : ℕ
  entries_filled = done (contents_answer b room) (piles b) 0

  pub filled_within : (entries_filled ≤ room) × (entries_filled ≤ pile_limit)
  filled_within =
      ⊎_elim (λ e. rw (when_accepted (contents_answer b room) (piles b) 0 e) (room_enough e))
      (λ p. rw (when_refused (contents_answer b room) (piles b) 0 (λ z. omega arith)) (omega arith, omega arith)) (eq-zero-or-pos (contents_answer b room))

-- the filled entries, and the rest as it was, are what the call leaves
pub contents_filled : {Entry : Type 0} (entry : ℕ → ℕ → Entry) (b : List ℕ) (out : List Entry) →
    list (entries_filled b (length out)) (λ k. entry (pile_number b k) (position b k)) ++ drop (entries_filled b (length out)) out ≡ after_contents entry b out
unfolding after_contents list flat
contents_filled entry b out =
    ⊎_elim (λ e. rw (when_accepted (contents_answer b (length out)) (piles b) 0 e) (sym (when_accepted _ _ _ e)))
    (λ p. rw (when_refused (contents_answer b (length out)) (piles b) 0 (λ z. omega arith)) (sym (when_refused _ _ _ (λ z. omega arith)))) (eq-zero-or-pos (contents_answer b (length out)))
