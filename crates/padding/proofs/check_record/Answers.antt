-- `check_record` packs the list, has the body judged, and looks at the places past n.
use Prim.Native.Nat.{ℕ, ◌-◌}
use native.Mathlib.Omega.{arith}
use mathlib.Core.Path.{◌≡◌, sym, ◌∙◌}
use lib.ListN.{get_or}
use Rattle.refusal.specs.Answers.{answered}
use Rattle.rules.specs.Pile.{pile_answer}
use Rattle.rules.specs.Layout.{body_length}
use Rattle.rules.specs.Record.{record_view}
use Rattle.rules.proofs.File.BodySize.{size_in_range}
use Rattle.padding.specs.Lists.{numbers_record}
use Rattle.padding.proofs.Unused.{same_numbers}
use Rattle.padding.proofs.Checked.{pack_told, body_answer, told_5, not_told_5, unlawful_opening, share_left, place_left, as_body}
use Rattle.padding.proofs.check_record.Goals as goal
use Rattle.padding.proofs.check_record.Goals.{After-body_length, After-check_bodies-judged, then-eq-via-then-eq, then-eq-via-else-eq+then-not-opening_padding_zero}

size : (c : After-body_length) → c.body_length.result ≡ body_length (get_or c.args.numbers.now 0 0)
size c =
    let told = pack_told c.args.numbers.now (sym c.in_ok-pack.ensures.answer) in
    c.body_length.ensures ∙ size_in_range _ told.1 told.2

judged : (c : After-check_bodies-judged) → let l = c.args.numbers.now in answered c.check_bodies-judged.result ≡ pile_answer (get_or l 0 0) (record_view (numbers_record l))
judged c =
    let l = c.args.numbers.now in
    let all : c.body_length.result - 0 ≡ body_length (get_or l 0 0) = omega (arith, size (goal.at.After-check_bodies-judged c).After-body_length) in
    body_answer l (λ k. omega (arith, c.type_inv.numbers k)) (sym c.in_ok-pack.ensures.answer) c.in_ok-pack.ensures.bytes all c.check_bodies-judged.ensures

pub returns-then-eq : goal.returns-then-eq
returns-then-eq c =
    let small = λ (k : ℕ). c.type_inv.numbers k in
    let packs = sym c.in_ok-pack.ensures.answer in
    let is = judged (goal.at.returns-then-eq c).After-check_bodies-judged in
    elim c.then-eq.branch [
      | then-eq-via-then-eq w ↦ unlawful_opening c.args.numbers.now (λ k. omega (arith, small k)) packs is (told_5 _ _ (sym c.eq.ensures ∙ w.if-eq.true))
      | then-eq-via-else-eq+then-not-opening_padding_zero w ↦
          share_left c.args.numbers.now (λ k. omega (arith, small k)) packs is c.from-desks.ensures (same_numbers _ _ c.as_array.ensures.cases c.unwrap-record.ensures)
          (sym w.opening_padding_zero.ensures ∙ w.if-not-opening_padding_zero.true)
    ]

pub returns-then-not-rows_padding_zero : goal.returns-then-not-rows_padding_zero
returns-then-not-rows_padding_zero c =
    place_left c.args.numbers.now (λ k. omega (arith, c.type_inv.numbers k)) (sym c.in_ok-pack.ensures.answer)
    (judged (goal.at.returns-then-not-rows_padding_zero c).After-check_bodies-judged) c.from-desks.ensures
    (same_numbers _ _ c.as_array.ensures.cases c.unwrap-record.ensures) (not_told_5 _ _ (sym c.eq.ensures ∙ c.if-eq.false))
    (sym c.opening_padding_zero.ensures ∙ c.if-not-opening_padding_zero.false) (sym c.rows_padding_zero.ensures ∙ c.if-not-rows_padding_zero.true)

pub returns : goal.returns
returns c =
    as_body c.args.numbers.now (λ k. omega (arith, c.type_inv.numbers k)) (sym c.in_ok-pack.ensures.answer)
    (judged (goal.at.returns c).After-check_bodies-judged) c.from-desks.ensures
    (same_numbers _ _ c.as_array.ensures.cases c.unwrap-record.ensures) (not_told_5 _ _ (sym c.eq.ensures ∙ c.if-eq.false))
    (sym c.opening_padding_zero.ensures ∙ c.if-not-opening_padding_zero.false) (sym c.rows_padding_zero.ensures ∙ c.if-not-rows_padding_zero.false)
