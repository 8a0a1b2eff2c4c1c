-- `unpack` goes over the bytes while their digits are right, and keeps the number so far.
use Prim.Native.Nat.{ℕ, zero, suc, ◌+◌, ◌*◌, ◌<◌}
use native.Mathlib.Nat.{zero-add}
use native.Mathlib.Omega.{arith}
use mathlib.Core.Path.{◌≡◌, refl, ap, ap₂, sym, ◌∙◌}
use mathlib.Core.Bool.{true, false, not}
use mathlib.Core.List.{List}
use lib.ListN.{length, get_or}
use Rattle.rules.specs.Loops.{every}
use Rattle.rules.specs.Refusals.{◌when◌}
use Rattle.rules.proofs.Loops.Logic.{and_both}
use Rattle.rules.proofs.Loops.Every.{every_stops}
use Rattle.rules.proofs.Loops.Refusals.{not_met}
use Rattle.ticket.specs.Packed.{pair_right, packed_number, digits_right}
use Rattle.ticket.proofs.Digits.{packed_next, right_next, packed_below}
use Rattle.ticket.proofs.packed.unpack.Goals as goal

pub loop-byte-init : goal.loop-byte-init
unfolding packed_number digits_right every
loop-byte-init c = (refl, refl)

pub returns-then-not-pair_right-clause-answer : goal.returns-then-not-pair_right-clause-answer
unfolding digits_right ◌when◌
returns-then-not-pair_right-clause-answer c =
    let part = c.args.part.now in
    let k = c.loop-byte.byte-index in
    let here : pair_right (get_or part (0 + k) 0) ≡ false = ap (λ (j : ℕ). pair_right (get_or part j 0)) (zero-add k) ∙ sym c.if-not-pair_right.ensures in
    let wrong : digits_right (length part) part 0 ≡ false = every_stops (length part) _ k c.loop-byte-test.true here in
    rw wrong refl

-- two digits more make less than 2³²
room : (b : List ℕ) (at k : ℕ) → k < 4 → digits_right k b at ≡ true → packed_number k b at < 1000000
room b at zero l e = omega (arith, packed_below b at 0 e)
room b at (suc zero) l e = omega (arith, packed_below b at 1 e)
room b at (suc (suc zero)) l e = omega (arith, packed_below b at 2 e)
room b at (suc (suc (suc zero))) l e = omega (arith, packed_below b at 3 e)
room b at (suc (suc (suc (suc k)))) l e = absurd (omega arith)

pub overflow_mul-number : goal.overflow_mul-number
overflow_mul-number c = omega (arith, room _ _ c.loop-byte.byte-index (omega arith) c.loop-byte.invariant.0)

pub overflow_add-number : goal.overflow_add-number
overflow_add-number c = omega (arith, room _ _ c.loop-byte.byte-index (omega arith) c.loop-byte.invariant.0)

pub loop-byte-preserved : goal.loop-byte-preserved
loop-byte-preserved c =
    let (right, number) = c.loop-byte.invariant in (
      right_next _ _ ∙ and_both right (sym c.if-not-pair_right.ensures),
      ap₂ (λ (x y : ℕ). 100 * x + y) number (c.from.ensures ∙ c.pair_number.ensures) ∙ sym (packed_next _ _),
    )

pub returns-clause-answer : goal.returns-clause-answer
returns-clause-answer c = let done : c.loop-byte.byte-index ≡ length c.args.part.now = omega arith in sym (not_met 33 (ap not (rw done at c.loop-byte.invariant.0)))
