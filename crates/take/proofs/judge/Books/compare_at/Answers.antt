-- `compare_at` compares rows of one length, which is a row's: that is not refused.
use Prim.Native.Nat.{ℕ, ◌+◌, ◌-◌}
use native.Mathlib.Omega.{arith}
use mathlib.Core.Path.{◌≡◌, refl, ap, sym, ◌∙◌}
use mathlib.Core.Bool.{Bool, true, false}
use mathlib.Core.List.{List}
use lib.ListN.{length}
use Rattle.std.specs.Prelude.{Result, Ok, Err, is_ok}
use Rattle.rules.specs.Numbers.{part}
use Rattle.rules.specs.Rows as rules
use Rattle.rules.specs.Rows.{is_row_length, compared}
use Rattle.rules.proofs.Loops.Parts.{length_part}
use Rattle.rules.proofs.Take.RowOrder.{order_by}
use Rattle.rules.proofs.Take.Compared.{by_tests}
use Rattle.refusal.specs.declared.Refusal.{Refusal}
use Rattle.refusal.specs.Answers.{number_of}
use Rattle.rows.specs.declared.Comparison.{Comparison}
use Rattle.rows.specs.Comparisons.{as_comparison}
use Rattle.take.proofs.judge.Books.compare_at.Goals as goal

not_refused : (x y : Bool) (number : ℕ) → rules.refused number ≡ order_by x y → ⊥
not_refused true true number e = cc
not_refused true false number e = cc
not_refused false true number e = cc
not_refused false false number e = cc

rows_compared : (told : Result Comparison Refusal) (mine copy : List ℕ) → is_row_length (length mine) ≡ true → length mine ≡ length copy
    → as_comparison told ≡ compared mine copy → is_ok told ≡ true
rows_compared (Ok order) mine copy row same e = refl
rows_compared (Err refusal) mine copy row same e = absurd (not_refused _ _ (number_of refusal) (e ∙ by_tests mine copy row same))

pub unwrap-requires : goal.unwrap-requires
unwrap-requires c =
    let a = c.args in
    let count : a.at + a.row - a.at ≡ a.row = omega arith in
    let own_long = length_part a.at a.row a.self.own.now c.requires.within.in_own in
    rows_compared c.compare.result (part a.at a.row a.self.own.now) (part a.at a.row a.self.copy.now) (ap is_row_length own_long ∙ c.requires.is_row)
    (own_long ∙ sym (length_part a.at a.row a.self.copy.now c.requires.within.in_copy)) (rw count at c.compare.ensures)
