-- Two lawful bodies of one opening with no split have a lawful join: the row of each desk is that of one of the two, where its rights covered what it spent, and
-- what the others gave it has only grown. What 5 and 6 ask of both is asked of the opening and of single rows, so it holds of the join.
-- Assumes nothing.
use Prim.Native.Nat.{ℕ, ◌+◌, ◌≤◌, ◌<◌}
use native.Mathlib.Nat.{le_of_eq, le_trans, add-le-add}
use mathlib.Core.Path.{◌≡◌, refl, ap, sym, subst}
use mathlib.Core.Bool.{true, false}
use mathlib.Core.List.{List, []}
use borrow.Author.Tests.{leb-true, le-leb}
use Rattle.rules.specs.Loops.{sum}
use Rattle.rules.specs.Pile.{Side, other, Pile, credit, debit, lawful, tally_limit, pile_answer}
use Rattle.rules.specs.Layout.{columns, column, earned_column}
use Rattle.rules.specs.Rows.{is_split}
use Rattle.rules.proofs.Loops.Every.{every_at, every_all}
use Rattle.rules.proofs.Loops.Sums.{sum_le}
use Rattle.rules.proofs.Loops.Pieces.{length_list, getD_list}
use Rattle.rules.proofs.Pile.Facts.{PileFacts, both_at, both_all, facts, passes}
use Rattle.rules.proofs.File.Body.{column_below}
use Rattle.rules.proofs.Take.Order.{at_least_at}
use Rattle.rules.proofs.Take.RowOrder.{LeastAbove}
use Rattle.relays.specs.Join.{Body, desk_row, numbers, pile_in, order, join_row, join_body}
use Rattle.relays.specs.Laws.{LawfulBody}
use Rattle.relays.proofs.Rows.{above, Long, picked, bound}

pub joined_row : (n : ℕ) (x y : Body) (i : ℕ) → i < n → desk_row (join_body n x y) i ≡ join_row n (desk_row x i) (desk_row y i)
unfolding join_body
joined_row n x y i l = getD_list n _ [] i l

-- no rights are negative: what each desk spent of a side is covered
abbrev Covers : ℕ → Pile → Type 0
Covers n q = (s : Side) (i : ℕ) → i < n → debit n q s i ≤ credit n q s i

lawful_covers : (n : ℕ) (q : Pile) → lawful n q ≡ true → Covers n q
unfolding lawful
lawful_covers n q e s i l = leb-true _ _ (both_at _ (every_at n _ e i l) s)

covers_lawful : (n : ℕ) (q : Pile) → Covers n q → lawful n q ≡ true
unfolding lawful
covers_lawful n q covers = every_all n (λ i l. both_all (λ s. le-leb _ _ (covers s i l)))

module _ (n : ℕ) (x y : Body) (lawful-x : LawfulBody n x) (lawful-y : LawfulBody n y) (one_opening : x.opening ≡ y.opening)
    (whole : (i : ℕ) → i < n → is_split (order n (desk_row x i) (desk_row y i)) ≡ false) where
  abbrev joined : Body
  joined = join_body n x y

  -- what holds of desk i's row in both holds of it in the join
  either : (P : List ℕ → Type 0) (i : ℕ) → i < n → P (desk_row x i) → P (desk_row y i) → P (desk_row joined i)
  either P i l px py = subst P (sym (joined_row n x y i l)) (picked n P px py)

  -- no tally of one of the two is above the join's
  abbrev Grown : Body → Type 0
  Grown z = (i c : ℕ) → i < n → c < columns n → numbers (desk_row z i) c ≤ numbers (desk_row joined i) c

  grown : (z : Body) → ((i : ℕ) → i < n → above n (join_row n (desk_row x i) (desk_row y i)) (desk_row z i)) → Grown z
  grown z over i c l m =
      subst (λ (r : List ℕ). numbers (desk_row z i) c ≤ numbers r c) (sym (joined_row n x y i l)) (at_least_at (columns n) _ _ (over i l) c m)

  -- desk i's rights of a side, with this row and what the join says it was given, are not negative
  abbrev Covered : Side → ℕ → List ℕ → Type 0
  Covered s i r =
      sum n (λ j. numbers r (column n s j)) + numbers r (earned_column (other s))
      ≤ numbers x.opening (column n s i) + numbers r (earned_column s) + sum n (λ j. numbers (desk_row joined j) (column n s i))

  still_covered : (z : Body) → z.opening ≡ x.opening → Covers n (pile_in n z) → Grown z → (s : Side) (i : ℕ) → i < n → Covered s i (desk_row z i)
  unfolding credit debit
  still_covered z same covers more s i l =
      le_trans (covers s i l)
      (add-le-add (le_of_eq (ap (λ (o : List ℕ). numbers o (column n s i) + numbers (desk_row z i) (earned_column s)) same))
      (sum_le n (λ j m. more j (column n s i) m (column_below n s i l))))

  joined_covers : Covers n (pile_in n joined)
  unfolding join_body credit debit
  joined_covers s i l =
      let rows : (i : ℕ) → i < n → LeastAbove (columns n) (numbers (desk_row x i)) (numbers (desk_row y i)) (numbers (join_row n (desk_row x i) (desk_row y i)))
      = λ i l. bound n (desk_row x i) (desk_row y i) (whole i l) in
      let from-x = still_covered x refl (lawful_covers n _ lawful-x.none_negative) (grown x (λ i l. (rows i l).mine)) in
      let from-y = still_covered y (sym one_opening) (lawful_covers n _ lawful-y.none_negative) (grown y (λ i l. (rows i l).copy)) in
      either (Covered s i) i l (from-x s i l) (from-y s i l)

  joined_facts : PileFacts n (pile_in n x) → PileFacts n (pile_in n y) → PileFacts n (pile_in n joined)
  unfolding join_body
  joined_facts f g =
      record {
        opening = record { floor_top = f.opening.floor_top; top_limit_lem = f.opening.top_limit_lem; shares = f.opening.shares };
        earned_limit = λ s i l. either (λ r. numbers r (earned_column s) ≤ tally_limit) i l (f.earned_limit s i l) (g.earned_limit s i l);
        give_limit = λ s i j l m. either (λ r. numbers r (column n s j) ≤ tally_limit) i l (f.give_limit s i j l m) (g.give_limit s i j l m);
        give_self = λ s i l. either (λ r. numbers r (column n s i) ≡ 0) i l (f.give_self s i l) (g.give_self s i l);
        covered = joined_covers;
      }

  pub joined_lawful : LawfulBody n joined
  unfolding join_body
  joined_lawful =
      record {
        opening = lawful-x.opening;
        desks = length_list n _;
        rows = λ i l. either (Long n) i l (lawful-x.rows i l) (lawful-y.rows i l);
        none_negative = covers_lawful n _ joined_covers;
      }

  -- and where both pass the whole check, so does the join
  pub joined_passes : pile_answer n (pile_in n x) ≡ 0 → pile_answer n (pile_in n y) ≡ 0 → pile_answer n (pile_in n joined) ≡ 0
  joined_passes passes-x passes-y = passes n _ (joined_facts (facts n _ passes-x) (facts n _ passes-y))
