-- `same_piles` tests one pile after the other, its number and then its opening row, and stops at the first that differs.
use Prim.Native.Nat.{ℕ, ◌+◌, ◌-◌, ◌≤◌}
use native.Mathlib.Nat.{zero-lt-suc}
use native.Mathlib.Omega.{arith}
use mathlib.Core.Path.{◌≡◌, refl, ap, sym, ◌∙◌}
use mathlib.Core.List.{List}
use denote.Enum.Bare.{sameb}
use Rattle.std.specs.Prelude.{Ok}
use borrow.Author.Tests.{eq-eqb, ne_eqb, not-true, not-false}
use Rattle.rules.specs.Loops.{every}
use Rattle.rules.specs.Layout.{Head, row_length, book_length, pile_number}
use Rattle.rules.specs.Rows.{compared, is_alike}
use Rattle.rules.specs.Numbers.{part}
use Rattle.rules.proofs.Loops.Every.{every_next, every_stops}
use Rattle.rules.proofs.Loops.Logic.{and_both, and_left_fails, and_right_fails}
use Rattle.rules.proofs.File.Body.{row_within}
use Rattle.rules.proofs.File.Positions.{entry_within, front_within, body_within}
use Rattle.rules.proofs.Take.RowBytes.{is_row_length_lem}
use Rattle.rows.specs.declared.Comparison.{Comparison}
use Rattle.rows.specs.declared.Comparison.TheVariants.{Alike, MineLater, CopyLater, Split}
use Rattle.rows.specs.contracts.Comparison.{the_type}
use Rattle.rows.specs.Comparisons.{as_comparison}
use Rattle.layout.specs.Positions.{as_head, body_position}
use Rattle.layout.proofs.Positions.{position_is, size_most}
use Rattle.layout.proofs.Entries.{entry_says_number}
use Rattle.take.specs.Inner.{InBoth, opening_part}
use Rattle.take.proofs.judge.Books.same_piles.Goals as goal
use Rattle.take.proofs.judge.Books.same_piles.Goals.{After-entry_at-entry, After-entry_number-in-loop-k, In-loop-k, then-entry_number-via-then-entry_number, then-entry_number-via-else-entry_number+then-ne}

-- rows are called alike exactly where comparing them tells so
alike_told : (order : Comparison) → sameb the_type order Alike ≡ is_alike (as_comparison (Ok order))
alike_told Alike = refl
alike_told MineLater = refl
alike_told CopyLater = refl
alike_told Split = refl

-- by the test that was made, whether the opening rows are alike that are compared at a position
tested : (h : Head) (k at row : ℕ) (own copy : List ℕ) (order : Comparison) → 1 ≤ h.desks → h.desks ≤ 8 → at ≡ body_position h k → row ≡ row_length h.desks
    → as_comparison (Ok order) ≡ compared (part at row own) (part at row copy)
    → is_alike (compared (opening_part h k own) (opening_part h k copy)) ≡ sameb the_type order Alike
tested h k at row own copy order least most at-is row-is told =
    ap is_alike (sym (rw (at-is, position_is h k least most, row-is) at told)) ∙ sym (alike_told order)

-- the entry of this turn lies within both books, and so does the row
entry_in : (c : After-entry_at-entry) → InBoth c.entry_at-entry.result 6 c.args.self.own.now c.args.self.copy.now
entry_in c =
    let h = as_head c.args.self.head in
    let within : c.entry_at-entry.result + 6 ≤ book_length h =
    omega (arith, c.entry_at-entry.ensures, entry_within h c.loop-k.k c.loop-k-test.true, front_within h) in
    record { in_own = omega (arith, within, c.requires.own_sized); in_copy = omega (arith, within, c.requires.copy_sized) }

row_in : (c : In-loop-k) → InBoth c.loop-k.at (row_length c.args.self.head.desks) c.args.self.own.now c.args.self.copy.now
row_in c =
    let h = as_head c.args.self.head in
    let is = c.loop-k.invariant.0 ∙ position_is h c.loop-k.k c.requires.sizes.desks_least c.requires.sizes.desks_most in
    let body = body_within h c.loop-k.k c.loop-k-test.true in
    let row = row_within h.desks 0 (zero-lt-suc h.desks) in
    record { in_own = omega (arith, is, body, row, c.requires.own_sized); in_copy = omega (arith, is, body, row, c.requires.copy_sized) }

-- the numbers that were read are those of the pile in both books
own_number : (c : After-entry_number-in-loop-k) → c.entry_number.result ≡ pile_number c.args.self.own.now c.loop-k.k
own_number c =
    let from = c.entry_at-entry.result in
    c.entry_number.ensures
    ∙ entry_says_number c.args.self.own.now c.loop-k.k (from + 6 - from) c.entry_at-entry.ensures (omega arith)

copy_number : (c : After-entry_number-in-loop-k) → c.entry_number-in-loop-k.result ≡ pile_number c.args.self.copy.now c.loop-k.k
copy_number c =
    let from = c.entry_at-entry.result in
    c.entry_number-in-loop-k.ensures
    ∙ entry_says_number c.args.self.copy.now c.loop-k.k (from + 6 - from) c.entry_at-entry.ensures (omega arith)

pub loop-k-init : goal.loop-k-init
unfolding every body_position
loop-k-init c = (c.front_length-at.ensures ∙ omega arith, refl)

pub slice_bounds-entry_number-end : goal.slice_bounds-entry_number-end
slice_bounds-entry_number-end c = let there = entry_in (goal.at.slice_bounds-entry_number-end c).After-entry_at-entry in omega arith

pub returns-then-entry_number : goal.returns-then-entry_number
returns-then-entry_number c =
    let read = (goal.at.returns-then-entry_number c).After-entry_number-in-loop-k in
    sym (every_stops _ _ _ c.loop-k-test.true (elim c.then-entry_number.branch [
      | then-entry_number-via-then-entry_number w ↦
          and_left_fails (ne_eqb _ _ (λ e. w.if-entry_number.true (own_number read ∙ e ∙ sym (copy_number read)))) _
      | then-entry_number-via-else-entry_number+then-ne w ↦ and_right_fails _
          (tested (as_head c.args.self.head) _ _ _ _ _ _ c.requires.sizes.desks_least c.requires.sizes.desks_most c.loop-k.invariant.0 c.row_length-row.ensures w.compare_at.ensures
          ∙ not-true _ (sym w.if-ne.ensures))
    ]))

pub compare_at-requires : goal.compare_at-requires
compare_at-requires c =
    rw c.row_length-row.ensures (record {
      within = row_in (goal.at.compare_at-requires c).In-loop-k;
      is_row = is_row_length_lem c.args.self.head.desks c.requires.sizes.desks_least c.requires.sizes.desks_most;
    })

pub overflow_add-at : goal.overflow_add-at
overflow_add-at c = omega (arith, (row_in (goal.at.overflow_add-at c).In-loop-k).in_own, c.body_length-size.ensures, size_most c.args.self.head.desks)

pub loop-k-preserved : goal.loop-k-preserved
unfolding body_position
loop-k-preserved c =
    let read = (goal.at.loop-k-preserved c).After-entry_number-in-loop-k in (
      omega (arith, c.loop-k.invariant.0, c.body_length-size.ensures),
      every_next _ _ c.loop-k.invariant.1
          (and_both (eq-eqb _ _ (sym (own_number read) ∙ c.if-entry_number.false ∙ copy_number read))
          (tested (as_head c.args.self.head) _ _ _ _ _ _ c.requires.sizes.desks_least c.requires.sizes.desks_most c.loop-k.invariant.0 c.row_length-row.ensures c.compare_at.ensures
          ∙ not-false _ (sym c.if-ne.ensures))),
    )
