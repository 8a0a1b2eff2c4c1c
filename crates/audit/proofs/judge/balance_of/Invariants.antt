-- `balance_of` adds up the credits of one desk after the other, and clears its mark at each debit that is above. The totals and the row's two tallies make
-- the credit and the debit of either side.
use Prim.Native.Nat.{◌+◌, ◌*◌, ◌≤◌}
use mathlib.Core.Path.{◌≡◌}
use lib.Dec.{leb}
use Rattle.rules.specs.Loops.{sum, every}
use Rattle.rules.specs.Pile.{draw, tip, both_sides, credit, debit}
use Rattle.rules.specs.Layout.{cell_at}
use Rattle.audit.specs.Inner.{pile_of}
use Rattle.audit.proofs.judge.balance_of.Given as goal

abbrev pub invariant-loop-i : goal.invariant-loop-i
invariant-loop-i l =
    let p = pile_of l.body in
    (l.row ≡ cell_at l.body.n (l.i + 1) 0) × (l.credits ≤ l.i * 200000000000) × (l.covered ≡ every l.i (λ k. both_sides (λ s. leb (debit l.body.n p s k) (credit l.body.n p s k))))
    × (l.credits ≡ sum l.i (λ k. credit l.body.n p draw k + credit l.body.n p tip k))
