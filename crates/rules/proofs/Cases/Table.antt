-- A table of cases: each row says in words what is computed, what the definitions give, and what document 01 has there.
-- Assumes nothing.
use Prim.Native.Nat.{ℕ}
use Prim.Native.String.{String}
use mathlib.Core.Path.{◌≡◌, refl, ap₂}
use mathlib.Core.Bool.{Bool, true, false, cond, false≢true}
use mathlib.Core.List.{List, [], ◌∷◌}
use lib.Dec.{eqb}
use borrow.Author.Tests.{eqb-true}
use Rattle.rules.specs.Loops.{◌and◌, ◌or◌, between, sum, every, some, count, index, flat, list}
use Rattle.rules.specs.Refusals.{◌when◌, ◌or_else◌, first, done, Reply, refused, value, reply}
use Rattle.rules.specs.Numbers.{number, bytes, encode}
use Rattle.rules.specs.Pile.{both_sides, credit, debit, rights, lawful, tonnage, opening_lawful, tallies_lawful, pile_answer, same_opening}
use Rattle.rules.specs.Acts.{Kind, Act, act_refusal}
use Rattle.rules.specs.Layout.{sizes_in_range, row_length, body_length, front_length, body_at, book_length, cell_at, pile_number, position, pile_of, row_of, body_row, body_bytes, head_bytes, entry_bytes, front_bytes, book_bytes}
use Rattle.rules.specs.Rows.{at_least, alike, later, row_order, is_row_length, compared}
use Rattle.rules.specs.Opening.{rising, given, given_pile, buffer_length, opening_answer, opened, after_opening}
use Rattle.rules.specs.Book.{head_sound, contents_sound, book_answer, place, absent, contents_answer, after_contents, fetch_answer, body_part, body_start, tonnage_reply, desk_answer, rights_reply, act_answer, tally_at, after_act}
use Rattle.rules.specs.Record.{unused_shares, unused_places, record_answer, fresh_answer, record_tonnage_reply, record_desk_answer, record_rights_reply, record_act_answer, padded_row, record_of, fetched, store_answer, after_store}
use Rattle.rules.specs.Bounds.{least, most, bound_reply, record_bound_reply}
use Rattle.rules.specs.Take.{row_part, same_book, row_answer, take_answer, taken_row, taken, after_take, row_changed, changed_rows, take_report}

pub record Case : Type 0 where
  pub says : String
  pub got : List ℕ
  pub said : List ℕ

abbrev pub case : String → List ℕ → List ℕ → Case
case says got said = record { says = says; got = got; said = said }

abbrev pub AllHold : List Case → Type 0
AllHold [] = Unit {0}
AllHold (c ∷ cs) = (c.got ≡ c.said) × AllHold cs

-- A row holds where its two lists have the same numbers. antt computes the test for a whole table, and the law makes equations of it.
abbrev same : List ℕ → List ℕ → Bool
same [] [] = true
same [] (y ∷ ys) = false
same (x ∷ xs) [] = false
same (x ∷ xs) (y ∷ ys) = cond (eqb x y) (same xs ys) false

abbrev pub test : List Case → Bool
test [] = true
test (c ∷ cs) = cond (same c.got c.said) (test cs) false

both : (a b : Bool) → cond a b false ≡ true → (a ≡ true) × (b ≡ true)
both true b e = (refl, e)
both false b e = absurd (false≢true e)

same_numbers : (xs ys : List ℕ) → same xs ys ≡ true → xs ≡ ys
same_numbers [] [] e = refl
same_numbers [] (y ∷ ys) e = absurd (false≢true e)
same_numbers (x ∷ xs) [] e = absurd (false≢true e)
same_numbers (x ∷ xs) (y ∷ ys) e = let h = both _ _ e in ap₂ (λ (z : ℕ) (zs : List ℕ). z ∷ zs) (eqb-true x y h.0) (same_numbers xs ys h.1)

pub all_hold : (cs : List Case) → test cs ≡ true → AllHold cs
all_hold [] e = tt
all_hold (c ∷ cs) e = let h = both _ _ e in (same_numbers c.got c.said h.0, all_hold cs h.1)

-- a reply as numbers: a value behind 0, a refusal alone
abbrev pub shown : Reply → List ℕ
shown (refused k) = k ∷ []
shown (value x) = 0 ∷ x ∷ []

-- what a take answers, what it reports, and the book after it
abbrev pub takes : ℕ → List ℕ → List ℕ → List ℕ
takes d own copy = take_answer d own copy ∷ take_report d own copy ∷ after_take d own copy

-- an act on a pile, and the book after it
abbrev pub act_on : ℕ → Kind → ℕ → Act
act_on pile kind t = record { kind = kind; pile = pile; amount = t }

abbrev pub enter : ℕ → ℕ → Kind → ℕ → List ℕ → List ℕ
enter i pile kind t b = after_act i (act_on pile kind t) b

-- What a theorem that computes has to open: a name for each file of definitions.
unfoldable pub open_loops : Unit {0}
unfolding ◌and◌ ◌or◌ between sum every some count index flat list
open_loops = tt

unfoldable pub open_refusals : Unit {0}
unfolding ◌when◌ ◌or_else◌ first done reply
open_refusals = tt

unfoldable pub open_numbers : Unit {0}
unfolding number bytes encode
open_numbers = tt

unfoldable pub open_pile : Unit {0}
unfolding both_sides credit debit rights lawful tonnage opening_lawful tallies_lawful pile_answer same_opening
open_pile = tt

unfoldable pub open_acts : Unit {0}
unfolding act_refusal
open_acts = tt

unfoldable pub open_layout : Unit {0}
unfolding sizes_in_range row_length body_length front_length body_at book_length cell_at pile_number position pile_of row_of body_row body_bytes head_bytes entry_bytes front_bytes book_bytes
open_layout = tt

unfoldable pub open_rows : Unit {0}
unfolding at_least alike later row_order is_row_length compared
open_rows = tt

unfoldable pub open_opening : Unit {0}
unfolding rising given given_pile buffer_length opening_answer opened after_opening
open_opening = tt

unfoldable pub open_book : Unit {0}
unfolding head_sound contents_sound book_answer place absent contents_answer after_contents fetch_answer body_part body_start tonnage_reply desk_answer rights_reply act_answer tally_at after_act
open_book = tt

unfoldable pub open_record : Unit {0}
unfolding unused_shares unused_places record_answer fresh_answer record_tonnage_reply record_desk_answer record_rights_reply record_act_answer padded_row record_of fetched store_answer after_store
open_record = tt

unfoldable pub open_take : Unit {0}
unfolding row_part same_book row_answer take_answer taken_row taken after_take row_changed changed_rows take_report
open_take = tt

unfoldable pub open_bounds : Unit {0}
unfolding least most bound_reply record_bound_reply
open_bounds = tt
