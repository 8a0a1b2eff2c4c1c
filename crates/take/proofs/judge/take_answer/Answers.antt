-- `take_answer` asks the lines of the table in their order, and stops at the first that is met.
use Prim.Native.Nat.{ℕ, ◌<◌}
use mathlib.Core.Path.{◌≡◌, ap, sym, subst, ◌∙◌}
use Rattle.std.specs.Prelude.{OnOk}
use Rattle.rules.specs.Layout.{Head, head_of, desks, piles}
use Rattle.rules.specs.Book.{book_answer}
use Rattle.rules.proofs.File.Readable.{BookFacts, book_facts, book_answer_most}
use Rattle.refusal.proofs.Refused.{number_is_not_0, handed_on}
use Rattle.layout.specs.Positions.{as_head}
use Rattle.layout.proofs.Positions.{head_there}
use Rattle.take.specs.Inner.{AllMarked}
use Rattle.take.proofs.BothRead.{read, refused_as_copy, other_desks, other_piles, alongside, test, piles_ahead, judged}
use Rattle.take.proofs.TakeLines.{line_own, line_copy, line_11, line_30, line_rows}
use Rattle.take.proofs.judge.take_answer.Goals as goal
use Rattle.take.proofs.judge.take_answer.Goals.{After-head_of-head, After-head_of-other, Else-head-desk, Else-head-other-2, In_ok-check, In_ok-map_err, then-head-other-via-then-head-other, then-head-other-via-else-head-other+then-head-other-2, then-head-other-via-else-head-other+else-head-other-2+then-not-same_piles}

-- both books are readable
own_read : (c : In_ok-check) → book_answer c.args.own.now ≡ 0
own_read c = sym c.in_ok-check.ensures

copy_read : (c : In_ok-map_err) → book_answer c.args.copy.now ≡ 0
copy_read c = read c.check-2.result c.in_ok-map_err.ensures.variant c.check-2.ensures

mine : (c : In_ok-map_err) → BookFacts c.args.own.now
mine c = book_facts _ (own_read (goal.at.In_ok-map_err c).In_ok-check)

theirs : (c : In_ok-map_err) → BookFacts c.args.copy.now
theirs c = book_facts _ (copy_read c)

-- so the heads that are read are theirs
head_is : (c : After-head_of-head) → as_head c.head_of-head.result ≡ head_of c.args.own.now
head_is c = c.head_of-head.ensures ∙ head_there _ (mine (goal.at.After-head_of-head c).In_ok-map_err).long

other_is : (c : After-head_of-other) → as_head c.head_of-other.result ≡ head_of c.args.copy.now
other_is c = c.head_of-other.ensures ∙ head_there _ (theirs (goal.at.After-head_of-other c).In_ok-map_err).long

-- the desk is one of the own book's, and both books have as many desks and piles
desk : (c : Else-head-desk) → c.args.desk < desks c.args.own.now
desk c = rw (ap (λ (h : Head). h.desks) (head_is (goal.at.Else-head-desk c).After-head_of-head)) at c.if-head-desk.false

same_n : (c : After-head_of-other) → c.head_of-head.result.desks ≡ c.head_of-other.result.desks → desks c.args.own.now ≡ desks c.args.copy.now
same_n c e =
    let part : Head → ℕ = λ h. h.desks in
    sym (ap part (head_is (goal.at.After-head_of-other c).After-head_of-head)) ∙ e ∙ ap part (other_is c)

same_p : (c : After-head_of-other) → c.head_of-head.result.piles ≡ c.head_of-other.result.piles → piles c.args.own.now ≡ piles c.args.copy.now
same_p c e =
    let part : Head → ℕ = λ h. h.piles in
    sym (ap part (head_is (goal.at.After-head_of-other c).After-head_of-head)) ∙ e ∙ ap part (other_is c)

pub returns-in_err-check-clause-answer : goal.returns-in_err-check-clause-answer
returns-in_err-check-clause-answer c =
    handed_on c.from_residual.result c.in_err-check.field-0.0 c.from_residual.ensures.1 ∙ line_own _ _ _ _ c.in_err-check.ensures (number_is_not_0 _)

pub returns-in_err-map_err-clause-answer : goal.returns-in_err-map_err-clause-answer
returns-in_err-map_err-clause-answer c =
    let refusal = c.in_err-map_err.field-0.0 in
    let both = refused_as_copy c.check-2.result refusal c.check-2.ensures (book_answer_most _) c.in_err-map_err.ensures.cases in
    handed_on c.from_residual-in_err-map_err.result refusal c.from_residual-in_err-map_err.ensures.1
    ∙ both.0
    ∙ line_copy _ _ _ (own_read (goal.at.returns-in_err-map_err-clause-answer c).In_ok-check) _ c.check-2.ensures both.1

pub returns-then-head-desk-clause-answer : goal.returns-then-head-desk-clause-answer
returns-then-head-desk-clause-answer c =
    let at = goal.at.returns-then-head-desk-clause-answer c in
    line_11 _ _ _ (own_read at.In_ok-check) (copy_read at.In_ok-map_err)
    (rw (ap (λ (h : Head). h.desks) (head_is at.After-head_of-head)) at c.if-head-desk.true)

pub same_piles-requires : goal.same_piles-requires
same_piles-requires c =
    let at = goal.at.same_piles-requires c in
    let read = at.After-head_of-other in
    alongside _ _ (mine at.In_ok-map_err) (theirs at.In_ok-map_err) (head_is at.After-head_of-head) (same_n read c.if-head-other.false) (same_p read c.if-head-other-2.false)

pub returns-then-head-other-clause-answer : goal.returns-then-head-other-clause-answer
returns-then-head-other-clause-answer c =
    let at = goal.at.returns-then-head-other-clause-answer c in
    let mine_is = head_is at.After-head_of-head in
    let theirs_is = other_is at.After-head_of-other in
    let n : Head → ℕ = λ h. h.desks in
    let p : Head → ℕ = λ h. h.piles in
    line_30 _ _ _ (own_read at.In_ok-check) (copy_read at.In_ok-map_err) (desk at.Else-head-desk) (elim c.then-head-other.branch [
      | then-head-other-via-then-head-other w ↦ other_desks _ _ (λ e. w.if-head-other.true (ap n mine_is ∙ e ∙ sym (ap n theirs_is)))
      | then-head-other-via-else-head-other+then-head-other-2 w ↦ other_piles _ _ (λ e. w.if-head-other-2.true (ap p mine_is ∙ e ∙ sym (ap p theirs_is)))
      | then-head-other-via-else-head-other+else-head-other-2+then-not-same_piles w ↦
          sym (test _ _ (mine at.In_ok-map_err) (theirs at.In_ok-map_err) mine_is (same_n at.After-head_of-other w.if-head-other.false)
          (same_p at.After-head_of-other w.if-head-other-2.false))
          ∙ sym w.same_piles.ensures
          ∙ w.if-not-same_piles.true
    ])

pub piles_answer-requires-clause-piles : goal.piles_answer-requires-clause-piles
piles_answer-requires-clause-piles c =
    let at = goal.at.piles_answer-requires-clause-piles c in
    let read = at.After-head_of-other in
    piles_ahead _ _ (mine at.In_ok-map_err) (theirs at.In_ok-map_err) (head_is at.After-head_of-head) (same_n read c.if-head-other.false) (same_p read c.if-head-other-2.false)
    (sym c.same_piles.ensures ∙ c.if-not-same_piles.false)

pub returns-clause-answer : goal.returns-clause-answer
returns-clause-answer c =
    let at = goal.at.returns-clause-answer c in
    let f = mine at.In_ok-map_err in
    let g = theirs at.In_ok-map_err in
    let n = same_n at.After-head_of-other c.if-head-other.false in
    let p = same_p at.After-head_of-other c.if-head-other-2.false in
    let head = head_is at.After-head_of-head in
    c.piles_answer.ensures.answer
    ∙ judged _ _ f g head n p _
    ∙ line_rows _ _ _ (own_read at.In_ok-check) (copy_read at.In_ok-map_err) (desk at.Else-head-desk)
    (sym (test _ _ f g head n p) ∙ sym c.same_piles.ensures ∙ c.if-not-same_piles.false)

pub returns-clause-marks : goal.returns-clause-marks
returns-clause-marks c =
    let a = c.args in
    subst (λ (h : Head). OnOk c.piles_answer.result (AllMarked h a.own.now a.copy.now c.piles_answer.new.marks))
    (head_is (goal.at.returns-clause-marks c).After-head_of-head) c.piles_answer.ensures.marks
