-- What `all` over the numbers below n tells of a test that a closure makes.
-- Assumes nothing.
use Prim.Native.Nat.{ℕ, ◌<◌}
use native.Mathlib.Omega.{arith}
use mathlib.Core.Path.{◌≡◌, sym, subst}
use mathlib.Core.Bool.{Bool, true, false}
use mathlib.Core.List.{List}
use lib.ListN.{length, get_or}
use denote.Param.Members.{Mut}
use Rattle.std.specs.declared.option.Option.{Option}
use Rattle.std.specs.Iterator.{ChecksAll}
use Rattle.std.specs.List.{range_with_len, AllWithin, HoldsAt}
use Rattle.std.specs.Fn.{Called}
use Rattle.std.specs.Bool.{MatchBool}
use Rattle.std.proofs.lemmas.Iterator.{YieldsList, cases_from_all}
use Rattle.std.proofs.lemmas.List.FromFn.{length-range_with_len, get_or-range_with_len}
use Rattle.rules.specs.Loops.{every}
use Rattle.rules.proofs.Loops.Every.{every_all, every_stops}

module _ {S F : Type 0} {steps : S → Option ℕ → S → Type 0} {g : Mut F (ℕ × Unit {0}) Bool} (n : ℕ) (t : ℕ → Bool) (s u : S) (f : F) (r : Bool) where
  pub every_told : ChecksAll steps g s f r u → YieldsList steps (λ x. x) s (range_with_len 0 n)
      → ((x : ℕ) (b : Bool) (q : F) → Called g f (x, tt) b q → (q ≡ f) × (b ≡ t x)) → r ≡ every n t
  every_told d counts tells =
      by r (cases_from_all u f r (λ x. true ≡ t x) (λ x. false ≡ t x) d counts (λ x q k. tells x true q k) (λ x q k. (tells x false q k).1))
    where
      all : List ℕ
      all = range_with_len 0 n

      at : (k : ℕ) → k < n → get_or all k 0 ≡ k
      at k l = omega (arith, get_or-range_with_len 0 n k 0 l)

      by : (b : Bool) → MatchBool b (AllWithin (λ x. true ≡ t x) all 0 (length all)) ((k : ℕ) × (k < length all) × HoldsAt (λ x. false ≡ t x) all k) → b ≡ every n t
      by true h = sym (every_all n (λ k l. sym (subst (λ j. true ≡ t j) (at k l) (h k 0 (omega arith) (omega (arith, l, length-range_with_len 0 n))))))
      by false h =
          let l : h.0 < n = omega (arith, h.1, length-range_with_len 0 n) in
          sym (every_stops n t h.0 l (sym (subst (λ j. false ≡ t j) (at h.0 l) (h.2 0))))
