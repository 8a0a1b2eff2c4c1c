-- `pad` fills the list with the record's numbers, where no line of the table refuses it.
use mathlib.Core.Path.{◌∙◌}
use borrow.Author.Rules.{rules}
use Rattle.padding.proofs.PadLines.{padded_list}
use Rattle.padding.proofs.pad.Goals as goal

pub returns : goal.returns
returns c =
    padded_list _ _ c.args.bytes.now c.args.out.now (λ z. c.if-size-eq0.false (c.body_length-size.ensures ∙ z)) (search rules) c.if-out-lt-RECORD.false
    c.from.ensures c.pad_rows.ensures
