-- `open` asks all lines of the table first; where none is met, front and bodies are written one behind the other, and they make up the opened book.
use native.Mathlib.Omega.{arith}
use mathlib.Core.Path.{sym}
use lib.ListN.{length}
use Rattle.rules.specs.Opening.{after_opening}
use Rattle.rules.proofs.Loops.Left.{stays, becomes}
use Rattle.rules.proofs.File.Positions.{front_within}
use Rattle.rules.proofs.File.Opened.{Accepted, accepted_facts}
use Rattle.refusal.proofs.Refused.{number_is_not_0}
use Rattle.opening.specs.Inner.{book_head}
use Rattle.opening.proofs.Opened.{put_book}
use Rattle.opening.proofs.open.Goals as goal
use Rattle.opening.proofs.open.Goals.{In_ok-given}

-- the opening is accepted
facts : (c : In_ok-given) → let g = c.in_ok-given.given in Accepted g.desks g.piles g.numbers.now (length c.args.out.now)
facts c =
    let is = c.in_ok-given.ensures.given in
    rw (is.desks_are, is.piles_are, is.numbers_are) (accepted_facts _ _ _ _ (sym c.in_ok-given.ensures.answer))

pub returns-in_err-given-clause-out : goal.returns-in_err-given-clause-out
unfolding after_opening
returns-in_err-given-clause-out c = stays _ _ c.in_err-given.ensures.answer (number_is_not_0 c.in_err-given.field-0.0)

pub put_front-requires : goal.put_front-requires
put_front-requires c =
    let f = facts (goal.at.put_front-requires c).In_ok-given in
    record { room = omega (arith, f.enough, front_within (book_head c.in_ok-given.given)); rises = f.frame.rises }

pub put_bodies-requires : goal.put_bodies-requires
put_bodies-requires c =
    let f = facts (goal.at.put_bodies-requires c).In_ok-given in
    record { room = omega (arith, f.enough); lawful = f.lawful }

pub returns-clause-out : goal.returns-clause-out
unfolding after_opening
returns-clause-out c =
    let is = c.in_ok-given.ensures.given in
    let book = put_book c.in_ok-given.given _ c.put_front.ensures c.put_bodies.ensures in
    becomes _ _ (sym c.in_ok-given.ensures.answer) (rw (is.desks_are, is.piles_are, is.numbers_are) at book)
