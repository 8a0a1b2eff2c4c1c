-- `copy_bytes` stores one byte after the other, as `sets` does.
use Prim.Native.Nat.{ℕ, ◌+◌}
use mathlib.Core.List.{List, [], ◌∷◌}
use lib.ListN.{get_or}
use Rattle.rules.proofs.Loops.Writing.{Written}
use Rattle.take.proofs.merge.copy_bytes.Given as goal

abbrev pub byte : List ℕ → ℕ → ℕ → ℕ
byte copy at j = get_or copy (at + j) 0

abbrev pub invariant-loop-k : goal.invariant-loop-k
invariant-loop-k l = Written l.initial.own l.at l.count (λ j. byte l.copy l.at j ∷ []) l.k l.own
