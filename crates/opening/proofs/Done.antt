-- The calls that cannot be refused where they stand, since there is room: what they are answered, and that they are done.
-- Assumes nothing.
use Prim.Native.Nat.{ℕ, ◌+◌, ◌≤◌}
use mathlib.Core.Path.{◌≡◌, refl}
use mathlib.Core.List.{List}
use lib.ListN.{length}
use borrow.Author.Tests.{le-ltb}
use Rattle.std.proofs.Common.{Result, Ok, Err}
use Rattle.std.specs.Prelude.{IfOk}
use Rattle.std.specs.Result.{IsOk}
use Rattle.refusal.specs.declared.Refusal.{Refusal}
use Rattle.refusal.specs.Answers.{answered}
use Rattle.refusal.proofs.Refused.{number_is_not_0}
use Rattle.rules.specs.Refusals.{◌when◌, ◌or_else◌}
use Rattle.rules.specs.Layout.{entry_at}
use Rattle.rules.proofs.Loops.Refusals.{not_met}
use Rattle.layout.specs.Positions.{put_head_answer, put_entry_answer}
use Rattle.padding.specs.Copies.{copy_answer}

pub is_done : {A : Type 0} (r : Result A Refusal) → answered r ≡ 0 → IsOk r
is_done (Ok x) e = refl
is_done (Err refusal) e = absurd (number_is_not_0 refusal e)

-- what holds of the value of a call that is done
pub if_done : {A : Type 0} (r : Result A Refusal) {P Q : A → Type 0} → ((x : A) → answered r ≡ 0 → P x → Q x) → IfOk r P → IfOk r Q
if_done (Ok x) h p = h x refl p
if_done (Err refusal) h p = p

pub head_done : (b : List ℕ) → 4 ≤ length b → put_head_answer b ≡ 0
unfolding put_head_answer
head_done b room = not_met 8 (le-ltb _ _ room)

pub entry_done : (b : List ℕ) (k : ℕ) → entry_at k + 6 ≤ length b → put_entry_answer k b ≡ 0
unfolding put_entry_answer
entry_done b k room = not_met 8 (le-ltb _ _ room)

pub copy_done : (to : ℕ) {size : ℕ} (from : ℕ) {long : ℕ} (count : ℕ) → from + count ≤ long → to + count ≤ size → copy_answer to size from long count ≡ 0
unfolding copy_answer ◌when◌ ◌or_else◌
copy_done to from count there room = rw (le-ltb _ _ there, le-ltb _ _ room)
