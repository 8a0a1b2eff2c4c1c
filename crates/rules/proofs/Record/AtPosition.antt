-- The record of the body of n desks at a position: where one is there, and where none is.
-- Assumes nothing.
use Prim.Native.Nat.{ℕ, ◌+◌, ◌≤◌, ◌<◌}
use mathlib.Core.Path.{◌≡◌, ap}
use mathlib.Core.Bool.{Bool, cond}
use mathlib.Core.List.{List}
use lib.ListN.{length}
use borrow.Author.Tests.{le-leb, lt-leb}
use Rattle.rules.specs.Loops.{between}
use Rattle.rules.specs.Layout.{desk_limit, body_view, body_length}
use Rattle.rules.specs.Record.{Record, zero_record, record_of, body_record}
use Rattle.rules.proofs.Loops.Logic.{and_both, and_right_fails}

module _ (n : ℕ) (b : List ℕ) (at : ℕ) where
  abbrev there : Bool → Record
  there t = cond t (record_of n (body_view n b at)) zero_record

  pub record_there : 1 ≤ n → n ≤ desk_limit → at + body_length n ≤ length b → body_record n b at ≡ record_of n (body_view n b at)
  unfolding body_record between
  record_there least most within = ap there (and_both (and_both (le-leb _ _ least) (le-leb _ _ most)) (le-leb _ _ within))

  pub no_body : length b < at + body_length n → body_record n b at ≡ zero_record
  unfolding body_record
  no_body h = ap there (and_right_fails _ (lt-leb _ _ h))
