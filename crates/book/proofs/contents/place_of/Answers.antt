-- `place_of` looks at one entry after the other, and stops at the first with the number.
use Rattle.std.proofs.Common.{rules}
use Rattle.std.proofs.lemmas.Iterator.{first_from_Range}
use borrow.Author.Tests.{tests}
use mathlib.Core.Bool.{true, false}
use mathlib.Core.Path.{◌≡◌}
use Rattle.layout.proofs.Entries.{entry_says_number}
use Rattle.book.proofs.Entries.{Searched, says, place_there, place_absent}
use Rattle.book.proofs.contents.place_of.Goals as goal
use Rattle.book.proofs.contents.place_of.Goals.{After-find}

searched : (c : After-find) → Searched c.args.book.now c.args.p c.args.number c.find.result
searched c =
    let test = says c.args.book.now c.args.p c.args.number in
    first_from_Range _ _ _ c.find.result (λ k. test k ≡ true) (λ k. test k ≡ false) c.find.ensures.ran (λ x q k. search (rules, tests, entry_says_number)) (λ x q k. search (rules, tests, entry_says_number))

pub returns-clause-found : goal.returns-clause-found
returns-clause-found c = place_there _ _ _ _ (searched c)

pub returns-clause-absent : goal.returns-clause-absent
returns-clause-absent c = place_absent _ _ _ _ (searched c)
