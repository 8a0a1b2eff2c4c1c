-- `pad_run` stores one number after the other, as `sets` does.
use Prim.Native.Nat.{◌+◌, ◌*◌}
use mathlib.Core.List.{[], ◌∷◌}
use Rattle.rules.specs.Numbers.{number}
use Rattle.rules.proofs.Loops.Writing.{Written}
use Rattle.padding.proofs.padded.pad_run.Given as goal

abbrev pub invariant-loop-k : goal.invariant-loop-k
invariant-loop-k l = Written l.initial.out l.to l.count (λ j. number 4 l.bytes (l.from + j * 4) ∷ []) l.k l.out
