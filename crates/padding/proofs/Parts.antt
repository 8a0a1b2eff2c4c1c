-- A part that was lent comes back in its place, as `sets` would have written it.
-- Assumes nothing.
use Prim.Native.Nat.{ℕ, ◌+◌, ◌≤◌}
use native.Mathlib.Omega.{arith}
use mathlib.Core.Path.{◌≡◌, sym, ◌∙◌}
use mathlib.Core.List.{List, ◌++◌}
use lib.ListN.{length, take, drop}
use lib.Seq.{sets}
use borrow.Author.Tests.{le-ltb}
use Rattle.rules.specs.Numbers.{bytes, part, put_answer, after_put}
use Rattle.rules.proofs.Loops.Refusals.{not_met}
use Rattle.rules.proofs.Loops.Parts.{length_part}
use Rattle.rules.proofs.Loops.Sets.{sets_to_end}
use Rattle.rules.proofs.Bytes.Numbers.{length_bytes}
use Rattle.rules.proofs.Bytes.Put.{put_fits}
use Rattle.number.proofs.Parts.{back_in_place}

-- a number put into the part of its four bytes has room there
pub part_has_room : (l : List ℕ) (at m : ℕ) → m ≡ 4 → at + m ≤ length l → put_answer 4 (part at m l) 0 ≡ 0
unfolding put_answer
part_has_room l at m is-4 fits = not_met 8 (le-ltb _ _ (omega (arith, length_part at m l fits)))

pub put_in_part : (l : List ℕ) (at m x : ℕ) {four : List ℕ} → four ≡ after_put 4 (part at m l) 0 x → m ≡ 4 → at + m ≤ length l
    → take at l ++ (four ++ drop m (drop at l)) ≡ sets l at (bytes 4 x)
put_in_part l at m x e is-4 fits =
    let there : length (part at m l) ≡ m = length_part at m l fits in
    rw (e ∙ put_fits 4 (part at m l) 0 x (omega arith) ∙ sets_to_end (part at m l) 0 (bytes 4 x) (omega (arith, length_bytes 4 x)))
    (back_in_place l at m (bytes 4 x) (length_bytes 4 x ∙ sym is-4) fits)
