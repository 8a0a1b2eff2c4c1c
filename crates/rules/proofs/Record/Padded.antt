-- An array filled with numbers for n desks.
-- Assumes nothing.
use Prim.Native.Nat.{ℕ, ◌+◌, ◌≤◌, ◌<◌}
use native.Mathlib.Decide.{ℕ_discrete, dec_lt}
use native.Mathlib.Omega.{arith}
use mathlib.Core.Path.{◌≡◌, sym, ◌∙◌}
use mathlib.Core.Logic.{by_cases}
use lib.ListN.{get_or, set, length-set}
use lib.Seq.{ext_get_or, get_or-set_same, get_or-set_other}
use Rattle.rules.specs.Loops.{list}
use Rattle.rules.specs.Record.{padded}
use Rattle.rules.proofs.Loops.Pieces.{length_list, getD_list, list_cong}
use Rattle.rules.proofs.Record.RecordOf.{padded_used, padded_unused}

-- the number at a place, used or not
pub padded_is : (n : ℕ) (f : ℕ → ℕ) (j x : ℕ) → (j < n → f j ≡ x) → (n ≤ j → x ≡ 0) → x ≡ padded n f j
padded_is n f j x used unused =
    by_cases (dec_lt j n) (λ l. sym (used l) ∙ sym (padded_used n f j l))
    (λ l. unused (omega arith) ∙ sym (padded_unused n f j (omega arith)))

-- the same numbers for n desks are the same array
pub padded_cong : (m n : ℕ) (f g : ℕ → ℕ) → ((i : ℕ) → i < n → f i ≡ g i) → list m (padded n f) ≡ list m (padded n g)
padded_cong m n f g same =
    list_cong m (λ j _. padded_is n g j (padded n f j) (λ l. sym (padded_used n f j l ∙ same j l)) (padded_unused n f j))

-- numbers for i desks, and one more stored after them
pub padded_next : (m i : ℕ) (f : ℕ → ℕ) → i < m → set (list m (padded i f)) i (f i) ≡ list m (padded (i + 1) f)
padded_next m i f i<m =
    ext_get_or 0 _ _ (length-set (list m (padded i f)) i (f i) ∙ length_list m (padded i f) ∙ sym (length_list m (padded (i + 1) f)))
    (λ k l. let k<m : k < m = omega (arith, length-set (list m (padded i f)) i (f i), length_list m (padded i f)) in at k k<m ∙ sym (getD_list m (padded (i + 1) f) 0 k k<m))
  where
    at : (k : ℕ) → k < m → get_or (set (list m (padded i f)) i (f i)) k 0 ≡ padded (i + 1) f k
    at k k<m =
        by_cases (ℕ_discrete k i)
        (λ e. rw e (get_or-set_same (list m (padded i f)) i (f i) 0 (omega (arith, length_list m (padded i f))) ∙ sym (padded_used (i + 1) f i (omega arith))))
        (λ d. get_or-set_other (list m (padded i f)) i k (f i) 0 d ∙ getD_list m (padded i f) 0 k k<m
        ∙ by_cases (dec_lt k i) (λ l. padded_used i f k l ∙ sym (padded_used (i + 1) f k (omega arith)))
        (λ l. padded_unused i f k (omega arith) ∙ sym (padded_unused (i + 1) f k (omega arith))))
