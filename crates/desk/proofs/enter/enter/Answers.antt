-- `enter` asks the table's lines in their order: the book's, the desk's and the pile's by `seek`, the act's by the rights and the tally of the body
-- found; and puts the tally into the one cell.
use Prim.Native.Nat.{ℕ, ◌+◌, ◌≤◌}
use native.Mathlib.Omega.{arith}
use mathlib.Core.Path.{◌≡◌, ap, sym}
use borrow.Author.Rules.{rules}
use Rattle.rules.specs.Book.{act_answer}
use Rattle.refusal.specs.Answers.{answered}
use Rattle.refusal.proofs.Refused.{number_is_not_0}
use Rattle.act_lines.specs.Kinds.{kind_of}
use Rattle.desk.specs.Kinds.{act}
use Rattle.desk.proofs.Entered.{cell_most, desk_few, desks_few, entry_refused, own_answer, lines_answer, entered}
use Rattle.desk.proofs.enter.enter.Goals as goal
use Rattle.desk.proofs.enter.enter.Goals.{After-act_refusal}

-- what the lines answer is the act's answer
told : (c : After-act_refusal) → let a = c.args in
    answered c.act_refusal.result ≡ act_answer a.desk (act (kind_of a.kind) a.number a.amount) a.book.now
told c =
    let a = c.args in
    let found = c.in_ok-found.ensures in
    lines_answer _ (act (kind_of a.kind) a.number a.amount) _ (sym found.answer) found.start found.desks c.column-column.ensures
    (ap (λ (x : ℕ). c.in_ok-found.found.start + x) c.cell_at.ensures) c.get4-tally.ensures c.receiver_wrong.ensures c.side.ensures c.side_rights-rights.ensures
    c.act_refusal.ensures.answer

pub returns-in_err-found : goal.returns-in_err-found
returns-in_err-found c =
    let a = c.args in
    let asked = act (kind_of a.kind) a.number a.amount in
    let refusal = c.in_err-found.field-0.0 in
    entry_refused _ asked _ c.from_residual.result refusal c.from_residual.ensures.1
    (own_answer _ asked _ c.in_err-found.ensures.answer (number_is_not_0 refusal))

pub overflow_add-desk : goal.overflow_add-desk
overflow_add-desk c =
    let a = c.args in
    search (rules, desk_few a.desk (act (kind_of a.kind) a.number a.amount) a.book.now (sym c.in_ok-found.ensures.answer))

pub overflow_add-at : goal.overflow_add-at
overflow_add-at c =
    let a = c.args in
    let found = c.in_ok-found.ensures in
    let asked = act (kind_of a.kind) a.number a.amount in
    let row : a.desk + 1 ≤ 255 = omega (arith, desk_few a.desk asked a.book.now (sym found.answer)) in
    let n≤255 : c.in_ok-found.found.desks ≤ 255 = omega (arith, desks_few a.desk asked a.book.now (sym found.answer) found.desks) in
    search (rules, c.cell_at.ensures, cell_most c.in_ok-found.found.desks _ c.column-column.result n≤255 row (omega arith))

pub returns-in_err-act_refusal : goal.returns-in_err-act_refusal
returns-in_err-act_refusal c =
    let a = c.args in
    entry_refused _ (act (kind_of a.kind) a.number a.amount) _ c.from_residual-in_err-act_refusal.result c.in_err-act_refusal.field-0.0
    c.from_residual-in_err-act_refusal.ensures.1
    (rw c.in_err-act_refusal.was at (told (goal.at.returns-in_err-act_refusal c).After-act_refusal))

pub returns : goal.returns
returns c =
    let a = c.args in
    let found = c.in_ok-found.ensures in
    entered _ (act (kind_of a.kind) a.number a.amount) _ (sym found.answer) found.start found.desks c.column-column.ensures
    (ap (λ (x : ℕ). c.in_ok-found.found.start + x) c.cell_at.ensures) c.get4-tally.ensures
    (sym (rw c.in_ok-act_refusal.was at (told (goal.at.returns c).After-act_refusal))) c.put4.ensures.answer c.put4.ensures.bytes
