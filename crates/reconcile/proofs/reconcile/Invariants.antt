-- `reconcile` walks to the end of both lists, and hands back the counts where nothing is wrong.
use Prim.Native.Nat.{◌+◌, ◌-◌}
use lib.ListN.{length}
use Rattle.reconcile.specs.Inner.{Walked}
use Rattle.reconcile.proofs.reconcile.Given as goal

abbrev pub invariant-loop-walk : goal.invariant-loop-walk
invariant-loop-walk l = Walked l.bridge l.desk l.walk

abbrev pub decreases-loop-walk : goal.decreases-loop-walk
decreases-loop-walk l = length l.bridge + length l.desk - (l.walk.bridge.at + l.walk.desk.at)
