-- An entry put into a buffer: it is written where it has room, and refused with 8 where it has none.
-- Assumes nothing.
use Prim.Native.Nat.{ℕ, ◌+◌, ◌≤◌, ◌<◌}
use native.Mathlib.Omega.{arith}
use mathlib.Core.Path.{◌≡◌, ap, ◌∙◌}
use mathlib.Core.List.{List, ◌++◌}
use lib.ListN.{length}
use lib.Seq.{sets, length-sets}
use borrow.Author.Tests.{lt-ltb, le-ltb}
use Rattle.rules.specs.Refusals.{◌when◌, done}
use Rattle.rules.specs.Numbers.{bytes, put_answer, after_put}
use Rattle.rules.specs.Layout as rules
use Rattle.rules.specs.Layout.{entry_at}
use Rattle.rules.proofs.Loops.Refusals.{not_met}
use Rattle.rules.proofs.Loops.Sets.{sets_then}
use Rattle.rules.proofs.Bytes.Numbers.{length_bytes}
use Rattle.rules.proofs.Bytes.Put.{put_fits}
use Rattle.layout.specs.Positions.{body_position, put_entry_answer, after_put_entry}

module _ (h : rules.Head) (b : List ℕ) (k x : ℕ) where
  pub entry_refused : length b < entry_at k + 6 → record { answer : 8 ≡ put_entry_answer k b; out : b ≡ after_put_entry h k x b }
  unfolding put_entry_answer after_put_entry ◌when◌ done
  entry_refused short = let fails = lt-ltb _ _ short in record { answer = rw fails; out = rw fails }

  -- an entry is its number, and then its position
  entry_written : {at to y : ℕ} {between after : List ℕ} → entry_at k + 6 ≤ length b → at ≡ entry_at k → to ≡ at + 2 → y ≡ body_position h k
      → between ≡ after_put 2 b at x → after ≡ after_put 4 between to y → after ≡ sets b (entry_at k) (bytes 2 x ++ bytes 4 (body_position h k))
  entry_written room at-is to_is position first second =
      let v : List ℕ = bytes 2 x in
      let two : length v ≡ 2 = length_bytes 2 x in
      rw (
        second,
        first,
        to_is,
        at-is,
        position,
        put_fits 2 b (entry_at k) x (omega arith),
        put_fits 4 (sets b (entry_at k) v) (entry_at k + 2) (body_position h k) (omega (arith, length-sets b (entry_at k) v)),
      )
      (sets_then b (entry_at k) v (entry_at k + 2) (bytes 4 (body_position h k)) (omega arith))

  -- the number has room, and so has the position behind it
  pub number_answer : {at m : ℕ} → entry_at k + 6 ≤ length b → at ≡ entry_at k → m ≡ put_answer 2 b at → m ≡ 0
  unfolding put_answer
  number_answer {at} room at-is told = told ∙ not_met 8 (le-ltb (length b) (at + 2) (omega arith))

  pub entry_put : {at to y m : ℕ} {between after : List ℕ} → entry_at k + 6 ≤ length b → at ≡ entry_at k → to ≡ at + 2 → y ≡ body_position h k
      → between ≡ after_put 2 b at x → m ≡ put_answer 4 between to → after ≡ after_put 4 between to y
      → record { answer : m ≡ put_entry_answer k b; out : after ≡ after_put_entry h k x b }
  unfolding put_answer put_entry_answer after_put_entry ◌when◌ done
  entry_put {at} {to} {y} {m} {between} room at-is to_is position first told second =
      let fits = le-ltb _ _ room in
      let two : length (bytes 2 x) ≡ 2 = length_bytes 2 x in
      let stays : length between ≡ length b = ap length (first ∙ put_fits 2 b at x (omega arith)) ∙ length-sets b at (bytes 2 x) in
      record {
        answer = told ∙ rw (le-ltb (length between) (to + 4) (omega arith), fits);
        out = rw fits (entry_written room at-is to_is position first second);
      }
