-- `shares` copies the draw shares and the tip shares of a pile to their places among zeros.
use Prim.Native.Nat.{ℕ}
use native.Mathlib.Omega.{arith}
use mathlib.Core.Path.{ap, ◌∙◌}
use lib.ListN.{get_or}
use Rattle.rules.specs.Opening.{given, given_pile}
use Rattle.opening.specs.Inner.{own_pile}
use Rattle.opening.proofs.Done.{is_done, copy_done}
use Rattle.opening.proofs.GivenShares.{copied_shares}
use Rattle.opening.proofs.given.GivenPile.shares.Goals as goal

pub unwrap-requires : goal.unwrap-requires
unwrap-requires c =
    let p = c.args.self in
    is_done _ (c.copy_run.ensures.answer ∙ copy_done 0 3 _ (omega (arith, c.from-count.ensures, p.desks_most, p.whole)) (omega (arith, c.from-count.ensures, p.desks_most)))

pub unwrap-requires-2 : goal.unwrap-requires-2
unwrap-requires-2 c =
    let p = c.args.self in
    is_done _ (c.copy_run-2.ensures.answer ∙ copy_done 8 _ _ (omega (arith, c.from-count.ensures, p.whole)) (omega (arith, c.from-count.ensures, p.desks_most, c.copy_run.auto.out)))

pub returns : goal.returns
unfolding given given_pile
returns c =
    let p = c.args.self in
    let at : ℕ → ℕ = λ i. get_or p.numbers.now i 0 in
    copied_shares p.desks (own_pile p) p.numbers.now 3 p.desks_most (omega (arith, p.whole))
    (λ j. ap at (omega arith)) (λ j. ap at (omega arith)) (rw c.from-count.ensures at c.copy_run.ensures.out) (rw c.from-count.ensures at c.copy_run-2.ensures.out)
