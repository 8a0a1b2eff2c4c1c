-- Padding a body to a list: what is left in it where no line of the table refuses it; and what the lines are opened by.
-- Assumes nothing.
use Prim.Native.Nat.{ℕ, ◌+◌, ◌≤◌}
use native.Mathlib.Omega.{arith}
use mathlib.Core.Path.{refl, ◌≡◌, sym}
use mathlib.Core.Logic.{◌≢◌}
use mathlib.Core.List.{List, ◌++◌}
use lib.ListN.{length, take, drop, set, length-set}
use borrow.Author.Tests.{le-leb, le-ltb}
use Rattle.rules.specs.Loops.{◌and◌, between}
use Rattle.rules.specs.Refusals.{◌when◌, ◌or_else◌, done}
use Rattle.rules.specs.Opening.{body_size}
use Rattle.rules.specs.Layout.{body_length, body_view}
use Rattle.rules.specs.Record.{record_of}
use Rattle.rules.proofs.File.BodySize.{no_size, some_size, size_in_range}
use Rattle.rules.proofs.Loops.Left.{becomes}
use Rattle.rules.proofs.Record.RecordOf.{length_shares, length_tallies}
use Rattle.padding.specs.Lists.{body_numbers, record_numbers, record_length, pad_answer, after_pad}
use Rattle.number.proofs.Parts.{back_in_place}
use Rattle.padding.proofs.RecordLists.{length_numbers}

-- n, and behind it the body's numbers in the place of what stood there
module _ (n at : ℕ) (b out : List ℕ) (some : body_size n ≢ 0) (there : at + body_size n ≤ length b) (enough : record_length ≤ length out) where
  accepted : pad_answer n at (length b) (length out) ≡ 0
  unfolding pad_answer between ◌and◌ ◌when◌ ◌or_else◌
  accepted =
      let desks = some_size n some in
      let within : at + body_length n ≤ length b = rw (size_in_range n desks.0 desks.1) at there in
      rw (le-leb _ _ desks.0, le-leb _ _ desks.1, le-ltb _ _ within, le-ltb _ _ enough) refl

  pub padded_list : {first : ℕ} {filled : List ℕ} → first ≡ n → filled ≡ body_numbers (record_of n (body_view n b at))
      → let l = set out 0 first in
      record {
        answer : 0 ≡ pad_answer n at (length b) (length out);
        out : take 1 l ++ (filled ++ drop 162 (drop 1 l)) ≡ after_pad n at b out;
      }
  unfolding after_pad record_numbers record_of
  padded_list same filled =
      let p = body_view n b at in
      let long = length_numbers (record_of n p) (length_shares n p) (length_tallies n p) in
      record {
        answer = sym accepted;
        out = becomes _ _ accepted (rw (same, filled) (back_in_place (set out 0 n) 1 162 _ long (omega (arith, length-set {A = ℕ}))));
      }

-- what tells a `grind` of the lines that refuse a body to be padded, and what it is opened by
pub ruleset pads = (no_size, some_size, size_in_range)

unfoldable pub open_pad : Unit {0}
unfolding between ◌and◌ ◌when◌ ◌or_else◌ done pad_answer after_pad
open_pad = tt
