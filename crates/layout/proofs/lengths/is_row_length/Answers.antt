-- `is_row_length` asks for a multiple of 8 from 16 to 72, and these are the eight lengths.
use Rattle.std.proofs.Common.{ℕ, suc, ◌+◌, ◌-◌, ◌*◌, ◌/◌, ◌%◌, ◌≤◌, ◌≡◌, true, arith}
use Rattle.std.proofs.lemmas.Grind.{common_steps}
use borrow.Author.Tests.{le-leb, eqb-true, eq-eqb, not-true, not-false}
use Rattle.rules.specs.Loops.{between, ◌and◌, some}
use Rattle.rules.specs.Layout.{row_length}
use Rattle.rules.specs.Rows.{is_row_length}
use Rattle.rules.proofs.Loops.Logic.{same, and_both, in_range}
use Rattle.rules.proofs.Loops.Every.{every_fails, some_at}
use Rattle.layout.proofs.lengths.is_row_length.Goals as goal

-- 8(n + 1) with n = k + 1 for a k below 8, both ways
of_length : (ℓ : ℕ) → is_row_length ℓ ≡ true → (ℓ % 8 ≡ 0) × (16 ≤ ℓ) × (ℓ ≤ 72)
unfolding is_row_length some row_length
of_length ℓ e =
    let w = every_fails 8 _ (not-true _ e) in
    let is : ℓ ≡ 8 * (suc w.0 + 1) = eqb-true _ _ (not-false _ w.2) in
    let below = w.1 in
    (omega arith, omega arith, omega arith)

to_length : (ℓ : ℕ) → ℓ % 8 ≡ 0 → 16 ≤ ℓ → ℓ ≤ 72 → is_row_length ℓ ≡ true
unfolding is_row_length row_length
to_length ℓ whole least most = some_at 8 _ (ℓ / 8 - 2) (omega arith) (eq-eqb ℓ (8 * (suc (ℓ / 8 - 2) + 1)) (omega arith))

whole_lengths : (ℓ : ℕ) → ℓ % 8 ≡ 0 → is_row_length ℓ ≡ between 16 72 ℓ
unfolding between
whole_lengths ℓ whole =
    same _ _ (λ e. let is = of_length ℓ e in and_both (le-leb _ _ is.1) (le-leb _ _ is.2))
    (λ e. let within = in_range 16 72 ℓ e in to_length ℓ whole within.0 within.1)

pub returns-then-len-eq0 : goal.returns-then-len-eq0
unfolding between ◌and◌
returns-then-len-eq0 c = rw (whole_lengths _ c.if-len-eq0.true) (grind (arith, common_steps))

pub returns-else-len-eq0 : goal.returns-else-len-eq0
returns-else-len-eq0 c =
    same _ _ (λ e. absurd (c.if-len-eq0.false (eqb-true _ _ e))) (λ e. absurd (c.if-len-eq0.false (of_length _ e).0))
