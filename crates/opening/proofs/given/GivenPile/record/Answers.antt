-- `record` makes a fresh record of the pile's numbers, which is the pile itself since its tallies are 0.
use mathlib.Core.Path.{refl, sym, ◌∙◌}
use Rattle.rules.specs.Opening.{given_pile}
use Rattle.rules.proofs.Record.Fresh.{fresh_answer_lem, fresh_record_lem}
use Rattle.opening.proofs.Done.{if_done}
use Rattle.opening.proofs.GivenList.{given_first}
use Rattle.opening.proofs.given.GivenPile.record.Goals as goal

pub returns : goal.returns
unfolding given_pile
returns c =
    let p = c.args.self in
    let number = given_first p.desks p.numbers.now in
    let fresh = rw (number 1, number 2) at c.fresh.ensures in
    let shares = c.shares.ensures in
    record {
      answer = fresh.answer ∙ fresh_answer_lem _ _ (λ s i. refl) (λ s i j. refl) shares p.desks_least p.desks_most;
      pile = if_done c.fresh.result (λ x z is. is ∙ fresh_record_lem _ _ (λ s i. refl) (λ s i j. refl) shares (sym fresh.answer ∙ z)) fresh.pile;
    }
