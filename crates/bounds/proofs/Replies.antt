-- What a query for a bound replies: of a record, from what the query for the rights that keep it told, and of a book, from the body that was found.
-- Assumes nothing.
use Prim.Native.Nat.{ℕ, ◌+◌, ◌≤◌, ◌<◌}
use native.Mathlib.Decide.{ℕ_discrete}
use native.Mathlib.Omega.{arith}
use mathlib.Core.Path.{◌≡◌, ap, sym, ◌∙◌}
use mathlib.Core.Logic.{by_cases, ◌⊎◌, inl, inr}
use mathlib.Core.List.{List}
use borrow.Author.Tests.{ltb-true}
use Rattle.rules.specs.Refusals.{refused, value}
use Rattle.rules.specs.Numbers.{number, part}
use Rattle.rules.specs.Pile.{Side, Pile, rights, pile_answer}
use Rattle.rules.specs.Layout.{columns, row_length, body_length, cell_at}
use Rattle.rules.specs.Record.{Record, record_view, record_desk_answer, record_rights_reply}
use Rattle.rules.specs.Bounds.{record_bound_reply}
use Rattle.rules.proofs.Loops.Refusals.{or_else_first, or_else_rest, when_not_done, reply_refused, reply_value}
use Rattle.rules.proofs.Record.Facts.{record_facts}
use Rattle.rules.proofs.Pile.Facts.{facts}
use Rattle.rules.proofs.Pile.Bounds.{rights_room}
use Rattle.rules.proofs.Bytes.Numbers.{number_part}
use Rattle.rules.proofs.File.Body.{row_within}
use Rattle.book.proofs.Bodies.{rights_read, rights_small}
use Rattle.bounds.specs.Inner.{kept}
use Rattle.bounds.proofs.Kept.{kept_bound}

-- Of a record rights and bound are both told, and there is room for the rights, or both are refused.
module _ (s : Side) (i : ℕ) (r : Record) where
  abbrev x : ℕ
  x = rights r.n (record_view r) s i

  room : record_desk_answer i r ≡ 0 → r.floor + x ≤ r.top
  unfolding record_desk_answer
  room found =
      rights_room r.n (record_view r) (record_facts r (or_else_first _ _ found)).pile s i (ltb-true _ _ (when_not_done _ _ (or_else_rest _ _ found)))

  pub record_told : (record_rights_reply s i r ≡ value x × record_bound_reply s i r ≡ value (kept s r.floor r.top x) × r.floor + x ≤ r.top)
      ⊎ (record_rights_reply s i r ≡ refused (record_desk_answer i r) × record_bound_reply s i r ≡ refused (record_desk_answer i r))
  unfolding record_rights_reply record_bound_reply
  record_told =
      by_cases (ℕ_discrete (record_desk_answer i r) 0)
      (λ e. inl (sym (reply_value _ _ e), sym (reply_value _ _ e) ∙ ap value (kept_bound r.n (record_view r) s i), room e))
      (λ d. inr (sym (reply_refused _ _ d), sym (reply_refused _ _ d)))

-- the opening and the rights that are read of a lawful body
pub lawful_room : (n : ℕ) (p : Pile) (s : Side) (i : ℕ) → pile_answer n p ≡ 0 → i < n → p.floor + rights n p s i ≤ p.top
lawful_room n p s i passes desk = rights_room n p (facts n p passes) s i desk

pub first_row : (n : ℕ) → row_length n ≤ body_length n
first_row n = let l = row_within n 0 (omega arith) in omega arith

pub opening_cell : (n at : ℕ) (b : List ℕ) (m k : ℕ) → m ≡ row_length n → k < columns n → number 4 (part at m b) (cell_at n 0 k) ≡ number 4 b (at + cell_at n 0 k)
unfolding cell_at row_length
opening_cell n at b m k is below = number_part 4 b at m _ (omega arith)

pub ruleset opening_read = (rights_read, rights_small, lawful_room, first_row, opening_cell, kept_bound)
