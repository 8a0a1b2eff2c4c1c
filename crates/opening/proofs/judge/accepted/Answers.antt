-- `accepted` asks the lines of the table in their order, and stops at the first that is met.
use Prim.Native.Nat.{◌+◌, ◌*◌}
use mathlib.Core.Path.{◌≡◌, sym, ◌∙◌}
use mathlib.Core.Bool.{true}
use lib.ListN.{length}
use Rattle.rules.specs.Layout.{sizes_in_range}
use Rattle.rules.proofs.File.Readable.{sizes_range}
use Rattle.opening.proofs.judge.accepted.Goals as goal
use Rattle.opening.proofs.judge.accepted.Goals.{Else-not-sizes_in_range, Else-numbers-from}

range : (c : Else-not-sizes_in_range) → sizes_in_range c.args.n c.args.p ≡ true
range c = sym c.sizes_in_range.ensures ∙ c.if-not-sizes_in_range.false

long : (c : Else-numbers-from) → let a = c.args in length a.numbers.now ≡ a.p * (3 + 2 * a.n)
long c = rw (c.from.ensures, c.pile_size.ensures) at c.if-numbers-from.false

pub invariant_of-given : goal.invariant_of-given
invariant_of-given c =
    let passed = goal.at.invariant_of-given c in
    let sizes = sizes_range _ _ (range passed.Else-not-sizes_in_range) in
    record { desks_least = sizes.desks_least; desks_most = sizes.desks_most; long = long passed.Else-numbers-from }
