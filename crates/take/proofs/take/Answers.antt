-- `take` judges first; where nothing is refused, as many rows are marked as are reported, and the marked rows written in place make up the taken book. Where
-- none is marked that is the book as it is.
use Prim.Native.Nat.{suc, ◌*◌, ◌≤◌}
use native.Mathlib.Omega.{arith}
use mathlib.Core.Path.{◌≡◌, ap, sym, ◌∙◌}
use lib.ListN.{length}
use borrow.Author.Rules.{rules}
use Rattle.rules.specs.Layout.{Head, head_of, row_length, front_length, desks, piles}
use Rattle.rules.specs.Take.{take_answer, after_take, take_report}
use Rattle.rules.proofs.Loops.Refusals.{when_refused}
use Rattle.rules.proofs.Take.InPlace.{own_facts}
use Rattle.rules.proofs.Take.Report.{report_zero}
use Rattle.refusal.proofs.Refused.{number_is_not_0}
use Rattle.layout.specs.Positions.{as_head}
use Rattle.layout.proofs.Positions.{head_there}
use Rattle.take.proofs.ByMarks.{enough, marks_long, rows_there, marks_counted, rows_taken}
use Rattle.take.proofs.take.Goals as goal
use Rattle.take.proofs.take.Goals.{After-count_marks-changed, After-front_length, After-head_of-head, After-row_length, After-rows_of-rows, In_ok-take_answer}

accepted : (c : In_ok-take_answer) → let a = c.args in take_answer a.desk a.own.now a.copy.now ≡ 0
accepted c = sym c.in_ok-take_answer.ensures.answer

-- there are as many marks as a book can have rows
long : (c : In_ok-take_answer) → 288 ≤ length c.take_answer.new.marks
long c = let all : length c.take_answer.new.marks ≡ 288 = search rules in omega arith

-- the head that is read is the book's, and so are the numbers that are computed by it
head_is : (c : After-head_of-head) → as_head c.head_of-head.result ≡ head_of c.args.own.now
head_is c = c.head_of-head.ensures ∙ head_there _ (own_facts _ _ _ (accepted (goal.at.After-head_of-head c).In_ok-take_answer)).long

rows_are : (c : After-rows_of-rows) → let b = c.args.own.now in c.rows_of-rows.result ≡ piles b * suc (desks b)
rows_are c = c.rows_of-rows.ensures ∙ ap (λ (h : Head). h.piles * suc h.desks) (head_is (goal.at.After-rows_of-rows c).After-head_of-head)

front_is : (c : After-front_length) → c.front_length.result ≡ front_length (head_of c.args.own.now)
front_is c = c.front_length.ensures ∙ ap front_length (head_is (goal.at.After-front_length c).After-head_of-head)

row_is : (c : After-row_length) → c.row_length.result ≡ row_length (desks c.args.own.now)
row_is c = c.row_length.ensures ∙ ap (λ (h : Head). row_length h.desks) (head_is (goal.at.After-row_length c).After-head_of-head)

-- as many rows are marked as the report says
reported : (c : After-count_marks-changed) → let a = c.args in c.count_marks-changed.result ≡ take_report a.desk a.own.now a.copy.now
reported c =
    let at = goal.at.After-count_marks-changed c in
    c.count_marks-changed.ensures
    ∙ marks_counted _ _ _ (accepted at.In_ok-take_answer) (rows_are at.After-rows_of-rows) _ (long at.In_ok-take_answer) c.in_ok-take_answer.ensures.marks

pub returns-in_err-take_answer-clause-book : goal.returns-in_err-take_answer-clause-book
unfolding after_take
returns-in_err-take_answer-clause-book c = sym (when_refused _ _ _ (λ z. number_is_not_0 _ (c.in_err-take_answer.ensures.answer ∙ z)))

pub slice_bounds-marks-end : goal.slice_bounds-marks-end
slice_bounds-marks-end c =
    let at = goal.at.slice_bounds-marks-end c in
    omega (arith, enough _ _ _ (accepted at.In_ok-take_answer) (rows_are at.After-rows_of-rows), long at.In_ok-take_answer)

pub slice_bounds-later-end : goal.slice_bounds-later-end
slice_bounds-later-end c =
    let at = goal.at.slice_bounds-later-end c in
    sym (marks_long _ _ _ (accepted at.In_ok-take_answer) (rows_are at.After-rows_of-rows) _ (long at.In_ok-take_answer))

pub take_rows-requires : goal.take_rows-requires
take_rows-requires c =
    let at = goal.at.take_rows-requires c in
    rows_there _ _ _ (accepted at.In_ok-take_answer) (rows_are at.After-rows_of-rows) _ (long at.In_ok-take_answer) (front_is at.After-front_length) (row_is at.After-row_length)

pub returns-then-changed-ne0-clause-changed : goal.returns-then-changed-ne0-clause-changed
returns-then-changed-ne0-clause-changed c = reported (goal.at.returns-then-changed-ne0-clause-changed c).After-count_marks-changed

pub returns-then-changed-ne0-clause-book : goal.returns-then-changed-ne0-clause-book
returns-then-changed-ne0-clause-book c =
    let at = goal.at.returns-then-changed-ne0-clause-book c in
    c.take_rows.ensures
    ∙ rows_taken _ _ _ (accepted at.In_ok-take_answer) (rows_are at.After-rows_of-rows) _ (long at.In_ok-take_answer) c.in_ok-take_answer.ensures.marks
    (front_is at.After-front_length) (row_is at.After-row_length)

pub returns-else-changed-ne0-clause-changed : goal.returns-else-changed-ne0-clause-changed
returns-else-changed-ne0-clause-changed c = reported (goal.at.returns-else-changed-ne0-clause-changed c).After-count_marks-changed

pub returns-else-changed-ne0-clause-book : goal.returns-else-changed-ne0-clause-book
returns-else-changed-ne0-clause-book c =
    let at = goal.at.returns-else-changed-ne0-clause-book c in
    sym ((report_zero _ _ _ (accepted at.In_ok-take_answer)).0 (sym (reported at.After-count_marks-changed) ∙ c.if-changed-ne0.false))
