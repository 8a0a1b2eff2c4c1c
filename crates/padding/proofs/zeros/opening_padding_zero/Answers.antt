-- `opening_padding_zero` tests the opening as the row that it is laid out as.
use mathlib.Core.Path.{refl, ◌∙◌}
use borrow.Author.Rules.{rules}
use Rattle.padding.proofs.Unused.{same_numbers, part_padding, unused_shares_lem}
use Rattle.padding.proofs.zeros.opening_padding_zero.Goals as goal

pub returns : goal.returns
returns c =
    part_padding _ 1 _ _ (rw (same_numbers _ _ c.as_array.ensures.cases c.unwrap.ensures) at c.row_padding_zero.ensures) refl ∙ unused_shares_lem _ _ (search rules)
