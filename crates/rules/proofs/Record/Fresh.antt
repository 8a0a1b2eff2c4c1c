-- A pile whose tallies are 0 as a fresh record: it is refused where its opening is not lawful, and nowhere else.
-- Assumes nothing.
use Prim.Native.Nat.{ℕ, zero, suc, ◌+◌, ◌*◌, ◌≤◌}
use mathlib.Core.Path.{◌≡◌, refl, ap, ap₂, sym, ◌∙◌}
use mathlib.Core.Bool.{Bool, true, false, cond, not}
use mathlib.Core.List.{List}
use lib.ListN.{get_or, replicate, length-replicate}
use lib.Dec.{ltb}
use Rattle.rules.specs.Refusals.{◌when◌}
use Rattle.rules.specs.Pile.{Side, Pile, opening_lawful}
use Rattle.rules.specs.Layout.{earned_column, column}
use Rattle.rules.specs.Record.{zero_tallies, fresh, fresh_answer, fresh_record, record_answer, record_of, row_places, tally_places}
use Rattle.rules.proofs.Loops.Refusals.{when_accepted}
use Rattle.rules.proofs.Pile.Fresh.{fresh_pile_answer}
use Rattle.rules.proofs.Record.RecordOf.{tallies_are, record_of_answer}

zero_at : (m k : ℕ) → get_or {A = ℕ} (replicate m 0) k 0 ≡ 0
zero_at zero k = refl
zero_at (suc m) zero = refl
zero_at (suc m) (suc k) = zero_at m k

-- used or not
zero_padded : (used : Bool) {x : ℕ} → x ≡ 0 → cond used x 0 ≡ 0
zero_padded true e = e
zero_padded false e = refl

module _ (n : ℕ) (p : Pile) (earned : (s : Side) (i : ℕ) → p.earned s i ≡ 0) (give : (s : Side) (i j : ℕ) → p.give s i j ≡ 0) where
  module _ {shares : List ℕ} (is : shares ≡ (record_of n p).shares) where
    pub fresh_is : fresh n p.floor p.top shares ≡ record_of n p
    unfolding record_of
    fresh_is =
        ap₂ (λ (l m : List ℕ). record { n = n; floor = p.floor; top = p.top; shares = l; tallies = m }) is
        (tallies_are n p zero_tallies (length-replicate {A = ℕ} tally_places 0)
        (λ s i _. zero_at tally_places (i * row_places + earned_column s) ∙ sym (zero_padded (ltb i n) (earned s i)))
        (λ s i j _ _. zero_at tally_places (i * row_places + column 8 s j) ∙ sym (zero_padded (ltb i n) (zero_padded (ltb j n) (give s i j)))))

    pub fresh_answer_lem : 1 ≤ n → n ≤ 8 → fresh_answer n p.floor p.top shares ≡ 5 when not (opening_lawful n p)
    unfolding fresh_answer
    fresh_answer_lem 1≤n n≤8 = ap record_answer fresh_is ∙ record_of_answer n p n≤8 1≤n ∙ fresh_pile_answer n p earned give

    pub fresh_record_lem : fresh_answer n p.floor p.top shares ≡ 0 → fresh_record n p.floor p.top shares ≡ record_of n p
    unfolding fresh_record
    fresh_record_lem e = when_accepted _ _ _ e ∙ fresh_is
