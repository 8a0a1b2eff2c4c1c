-- `put_entries` has filled both lists with the first k entries so far.
use Prim.Native.Nat.{◌≤◌}
use mathlib.Core.Path.{◌≡◌}
use Rattle.rules.specs.Layout.{pile_number, position}
use Rattle.pitbook.specs.Contents.{filled}
use Rattle.pitbook.proofs.contents.put_entries.Given as goal

abbrev pub invariant-loop-k : goal.invariant-loop-k
invariant-loop-k l =
    (l.k ≤ l.p)
    × ((l.numbers ≡ filled l.k (pile_number l.book) l.initial.numbers) × (l.positions ≡ filled l.k (position l.book) l.initial.positions))
