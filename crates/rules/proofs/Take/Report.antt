-- What a take reports: the rows that are written, counted in file order, are the pile and desk pairs whose row changed; and there are none exactly
-- where the book's bytes are unaltered.
-- Assumes nothing.
use Prim.Native.Nat.{ℕ, suc, ◌+◌, ◌*◌, ◌<◌, suc-le-suc}
use native.Mathlib.Omega.{arith}
use mathlib.Core.Path.{◌≡◌, ap, ap₂, sym, ◌∙◌}
use mathlib.Core.Logic.{inl}
use mathlib.Core.Bool.{Bool, cond, not}
use mathlib.Core.List.{List}
use lib.ListN.{get_or}
use lib.Seq.{sets}
use Rattle.rules.specs.Loops.{flat, count}
use Rattle.rules.specs.Numbers.{part}
use Rattle.rules.specs.Layout.{Head, head_of, row_length, front_length, body_at, cell_at, desks, piles}
use Rattle.rules.specs.Rows.{Comparison, is_alike, is_copy_later, compared}
use Rattle.rules.specs.Take.{row_part, take_answer, taken_row, taken, after_take, row_changed, changed_rows, take_report, ReportZero}
use Rattle.rules.proofs.Loops.Sums.{sum_cong, sum_zero}
use Rattle.rules.proofs.Loops.Counts.{count_cong, count_none, count_no, count_rest, count_runs}
use Rattle.rules.proofs.Loops.Refusals.{when_accepted}
use Rattle.rules.proofs.Loops.Ranges.{piece_within}
use Rattle.rules.proofs.Loops.Pieces.{flat_cong, length_flat, flat_parts, part_behind, part_flat}
use Rattle.rules.proofs.Loops.Parts.{length_part, sets_part}
use Rattle.rules.proofs.Loops.Sets.{getD_sets_other, sets_to_end}
use Rattle.rules.proofs.File.Positions.{head_within}
use Rattle.rules.proofs.File.Front.{head_cong}
use Rattle.rules.proofs.File.Readable.{BookFacts}
use Rattle.rules.proofs.Take.Compared.{itself, row_changes}
use Rattle.rules.proofs.Take.InPlace.{row_start, own_row, copy_row, is_row, as_long, row_in_order, rows_end, piece, piece_long, piece_taken, alike_not_later, own_facts, copy_facts, same_desks, same_count, openings_alike, no_row_split, written, after_take_lem}

-- an accepted take
module _ (d : ℕ) (own copy : List ℕ) (accepted : take_answer d own copy ≡ 0) where
  abbrev n : ℕ
  n = desks own

  abbrev p : ℕ
  p = piles own

  abbrev h : Head
  h = head_of own

  abbrev f : BookFacts own
  f = own_facts d own copy accepted

  abbrev g : BookFacts copy
  g = copy_facts d own copy accepted

  abbrev same_n : desks own ≡ desks copy
  same_n = same_desks d own copy accepted

  abbrev same_p : piles own ≡ piles copy
  same_p = same_count d own copy accepted

  -- row r in file order, and the copy's
  abbrev at : ℕ → List ℕ → List ℕ
  at r b = part (front_length h + r * row_length n) (row_length n) b

  row_at : (k r : ℕ) → compared (at (k * suc n + r) own) (at (k * suc n + r) copy) ≡ compared (row_part own k r) (row_part copy k r)
  row_at k r =
      ap (λ (at : ℕ). compared (part at (row_length n) own) (part at (row_length n) copy)) (row_in_order own copy f g same_n same_p k r)
      ∙ ap₂ compared (sym (own_row own copy f g same_n same_p k r)) (sym (copy_row own copy f g same_n same_p k r))

  abbrev pieces : ℕ → List ℕ
  pieces = piece own copy f g same_n same_p

  -- the taken book has the front of the taker's, and behind it the rows
  head_kept : (j : ℕ) → j < 4 → get_or (taken own copy) j 0 ≡ get_or own j 0
  head_kept j l = ap (λ (b : List ℕ). get_or b j 0) (sym (written d own copy accepted)) ∙ getD_sets_other own (front_length h) (flat (p * suc n) pieces) j (inl (omega (arith, head_within h)))

  same_head_kept : head_of (taken own copy) ≡ h
  same_head_kept = head_cong (taken own copy) own head_kept

  row_of_taken : (k r : ℕ) → k < p → r < suc n → row_part (taken own copy) k r ≡ taken_row own copy k r
  unfolding row_part
  row_of_taken k r k<p l =
      let j = k * suc n + r in
      let last : j < p * suc n = omega (arith, piece_within (suc n) k<p) in
      let front = length_part 0 (front_length h) own (omega (arith, rows_end own copy f g same_n same_p)) in
      ap (λ (h : Head). part (body_at h k + cell_at h.desks r 0) (row_length h.desks) (taken own copy)) same_head_kept
      ∙ ap₂ (λ (at : ℕ) (b : List ℕ). part at (row_length n) b)
      (row_start own copy f g same_n same_p k r ∙ sym (row_in_order own copy f g same_n same_p k r) ∙ ap (λ (x : ℕ). x + j * row_length n) (sym front))
      (sym (written d own copy accepted)
      ∙ sets_to_end own (front_length h) (flat (p * suc n) pieces)
      (omega (arith, rows_end own copy f g same_n same_p, length_flat (p * suc n) (row_length n) pieces (piece_long own copy f g same_n same_p))))
      ∙ part_behind (j * row_length n) (row_length n) (part 0 (front_length h) own) (flat (p * suc n) pieces)
      ∙ part_flat (p * suc n) (row_length n) pieces (piece_long own copy f g same_n same_p) j last
      ∙ piece_taken own copy f g same_n same_p (openings_alike d own copy accepted) (no_row_split d own copy accepted) k r k<p l

  -- the row of a pile and desk changes exactly where the copy's is later
  changed : (k i : ℕ) → k < p → i < n → row_changed own (taken own copy) k i ≡ is_copy_later (compared (row_part own k (suc i)) (row_part copy k (suc i)))
  unfolding row_changed taken_row
  changed k i k<p i<n =
      ap (λ (after : List ℕ). not (is_alike (compared (row_part own k (suc i)) after))) (row_of_taken k (suc i) k<p (suc-le-suc i<n))
      ∙ row_changes (row_part own k (suc i)) (is_row own copy f g same_n same_p k (suc i) k<p (suc-le-suc i<n)) (row_part copy k (suc i))
      (as_long own copy f g same_n same_p k (suc i) k<p (suc-le-suc i<n)) (no_row_split d own copy accepted k i k<p i<n)

  -- the rows of the copy that are later, counted in file order, openings among them
  pub report : count (p * suc n) (λ r. is_copy_later (compared (at r own) (at r copy))) ≡ take_report d own copy
  unfolding take_report changed_rows
  report =
      count_runs p (suc n) _
      ∙ sum_cong p (λ k k<p. count_cong (suc n) (λ r l. ap is_copy_later (row_at k r))
      ∙ count_rest n _ (alike_not_later (compared (row_part own k 0) (row_part copy k 0)) (openings_alike d own copy accepted k k<p))
      ∙ count_cong n (λ i i<n. sym (changed k i k<p i<n)))
      ∙ sym (when_accepted _ _ _ accepted)

  unaltered : take_report d own copy ≡ 0 → after_take d own copy ≡ own
  unaltered e =
      sym (after_take_lem d own copy accepted)
      ∙ ap (sets own (front_length h)) (flat_cong (p * suc n) (λ r l. ap (λ (b : Bool). cond b (at r copy) (at r own)) (count_no (p * suc n) _ (report ∙ e) r l))
      ∙ flat_parts (p * suc n) (row_length n) (front_length h) own)
      ∙ sets_part (front_length h) (p * suc n * row_length n) own (omega (arith, rows_end own copy f g same_n same_p))

  nothing_changed : after_take d own copy ≡ own → take_report d own copy ≡ 0
  unfolding take_report after_take changed_rows row_changed
  nothing_changed e =
      when_accepted _ _ _ accepted
      ∙ ap (changed_rows own) (sym (when_accepted _ _ _ accepted) ∙ e)
      ∙ sum_cong p (λ k k<p. count_cong n (λ i i<n. ap (λ (c : Comparison). not (is_alike c)) (itself _ (is_row own copy f g same_n same_p k (suc i) k<p (suc-le-suc i<n))))
      ∙ count_none n)
      ∙ sum_zero p

pub report_zero : ReportZero
report_zero d own copy accepted = (unaltered d own copy accepted, nothing_changed d own copy accepted)
