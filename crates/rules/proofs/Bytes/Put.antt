-- Writing a number into a list of bytes: it is read there, and every number beside it is as it was.
-- Assumes nothing.
use Prim.Native.Nat.{ℕ, zero, suc, ◌+◌, ◌^◌, ◌≤◌, ◌<◌}
use native.Mathlib.Omega.{arith}
use mathlib.Core.Path.{◌≡◌, ap, ◌∙◌}
use mathlib.Core.Logic.{inl, inr, ⊎_elim}
use mathlib.Core.List.{List, [], ◌∷◌}
use lib.ListN.{length, get_or, set}
use lib.Seq.{sets}
use borrow.Author.Tests.{le-ltb}
use Rattle.rules.specs.Numbers.{number, bytes, put_answer, after_put}
use Rattle.rules.proofs.Loops.Refusals.{not_met, when_accepted}
use Rattle.rules.proofs.Loops.Ranges.{Apart}
use Rattle.rules.proofs.Loops.Sets.{getD_sets_other, getD_sets_in}
use Rattle.rules.proofs.Bytes.Numbers.{Octets, length_bytes, number_cong, number_bytes}

octets_set : (b : List ℕ) (at x : ℕ) → Octets b → x < 256 → Octets (set b at x)
octets_set [] at x o l k = o k
octets_set (y ∷ b) zero x o l zero = l
octets_set (y ∷ b) zero x o l (suc k) = o (suc k)
octets_set (y ∷ b) (suc at) x o l zero = o 0
octets_set (y ∷ b) (suc at) x o l (suc k) = octets_set b at x (λ k. o (suc k)) l k

pub octets_sets : (b : List ℕ) (at : ℕ) (v : List ℕ) → Octets b → Octets v → Octets (sets b at v)
octets_sets b at [] o ov = o
octets_sets b at (x ∷ v) o ov = octets_sets (set b at x) (suc at) v (octets_set b at x o (ov 0)) (λ k. ov (suc k))

-- a number that has room is written
pub put_fits : (w : ℕ) (b : List ℕ) (at x : ℕ) → at + w ≤ length b → after_put w b at x ≡ sets b at (bytes w x)
unfolding after_put put_answer
put_fits w b at x l = when_accepted _ _ _ (not_met 8 (le-ltb _ _ l))

-- the number that is written, and a number beside it
pub put_same : (w : ℕ) (b : List ℕ) (at x : ℕ) → x < 256 ^ w → at + w ≤ length b → number w (sets b at (bytes w x)) at ≡ x
put_same w b at x fits l =
    number_cong w (sets b at (bytes w x)) (bytes w x) at 0 (λ j j<w.
    getD_sets_in b at (bytes w x) j (omega (arith, length_bytes w x)) (omega (arith, length_bytes w x))
    ∙ ap (λ (k : ℕ). get_or (bytes w x) k 0) (omega arith))
    ∙ number_bytes w x fits

pub put_other : (w w' : ℕ) (b : List ℕ) (at x at' : ℕ) → Apart at w at' w' → number w' (sets b at (bytes w x)) at' ≡ number w' b at'
put_other w w' b at x at' apart =
    number_cong w' (sets b at (bytes w x)) b at' at' (λ j j<w.
    getD_sets_other b at (bytes w x) (at' + j)
    (⊎_elim (λ l. inr (omega (arith, length_bytes w x))) (λ l. inl (omega arith)) apart))
