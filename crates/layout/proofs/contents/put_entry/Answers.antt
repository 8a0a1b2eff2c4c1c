-- `put_entry` puts the number, and the position behind it: the entry's room is room for both.
use native.Mathlib.Omega.{arith}
use mathlib.Core.Path.{refl}
use Rattle.refusal.proofs.Refused.{number_is_not_0}
use Rattle.layout.specs.Positions.{as_head}
use Rattle.layout.proofs.Positions.{position_most}
use Rattle.layout.proofs.Puts.{entry_refused, number_answer, entry_put}
use Rattle.layout.proofs.contents.put_entry.Goals as goal

pub returns-then-out-at : goal.returns-then-out-at
returns-then-out-at c = let a = c.args in entry_refused (as_head a.head) a.out.now a.k a.number (omega arith)

pub returns-in_err-put2 : goal.returns-in_err-put2
returns-in_err-put2 c =
    let a = c.args in
    absurd (number_is_not_0 _ (number_answer (as_head a.head) a.out.now a.k a.number (omega (arith, c.if-out-at.false)) c.entry_at-at.ensures c.in_err-put2.ensures.answer))

pub overflow_cast-body_at : goal.overflow_cast-body_at
overflow_cast-body_at c =
    omega (arith, c.body_at.ensures, position_most (as_head c.args.head) c.args.k (omega (arith, c.well_formed)) (omega (arith, c.ranges.k)))

pub returns : goal.returns
returns c =
    let a = c.args in
    entry_put (as_head a.head) a.out.now a.k a.number (omega (arith, c.if-out-at.false)) c.entry_at-at.ensures refl c.body_at.ensures c.put2.ensures.bytes
    c.put4.ensures.answer c.put4.ensures.bytes
