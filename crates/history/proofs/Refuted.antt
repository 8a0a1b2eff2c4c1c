-- The claim can fail: it is false of each of these small replicas, each named after what is wrong with it. So parts 1, 2, 3 and 5 all say
-- something; part 4 follows from part 1.
-- Assumes nothing.
use Prim.Native.Nat.{ℕ, ◌+◌, ◌≤◌, ◌<◌}
use native.Mathlib.Nat.{le_refl}
use native.Mathlib.Omega.{arith}
use mathlib.Core.Path.{◌≡◌, refl}
use mathlib.Core.Bool.{false≢true}
use mathlib.Core.List.{[], ◌∷◌}
use lib.ListN.{length}
use lib.Dec.{lit<, lit≤}
use Rattle.history.specs.Replica.{Replica, act, take, Valid}
use Rattle.history.specs.Books.{at, books}
use Rattle.history.specs.Ledger.{lone, ledger}
use Rattle.history.specs.Claim.{Demand3}
use Rattle.history.proofs.Moments.{History}

-- a counter to which every act adds so many; a take gets this answer, and leaves the own count
abbrev counter : (added answer : ℕ) → Replica
counter added answer =
    record {
      State = ℕ;
      Act = Unit {0};
      act_answer = λ d a s. 0;
      after_act = λ d a s. s + added;
      take_answer = λ d own copy. answer;
      after_take = λ d own copy. own;
    }

abbrev Any : ℕ → Type 0
Any s = Unit {0}

-- Acts that say done and alter nothing: the book of moment 1 is that of moment 0, but holds one act more (part 3, over two moments).
pub idle_act : Demand3 (counter 0 0) 1 Any 0 → ⊥
unfolding books ledger at lone
idle_act demand =
    let claim = demand (act 0 tt ∷ []) (lit< tt, tt) in
    false≢true ((claim.exact 0 0 1 0 (lit≤ tt) (lit< tt) (lit≤ tt) (lit< tt)).0 refl 0)

-- A take that says done and takes nothing: the taker holds the act, and its book does not have it (part 1).
pub idle_take : Demand3 (counter 1 0) 2 Any 0 → ⊥
unfolding books ledger at lone
idle_take demand =
    let claim = demand (take 1 0 1 ∷ act 0 tt ∷ []) (lit< tt, lit< tt, lit≤ tt, (lit< tt, tt)) in
    let same : ◌≡◌ {A = ℕ} 0 1 = claim.sequential 2 1 (lit≤ tt) (lit< tt) in
    omega arith

-- Every copy refused, and be it the copy of the start (part 5).
pub copy_refused : Demand3 (counter 1 31) 1 Any 0 → ⊥
unfolding books at
copy_refused demand =
    let answered : ◌≡◌ {A = ℕ} 31 0 = (demand (take 0 0 0 ∷ []) (lit< tt, lit< tt, lit≤ tt, tt)).taken.0 in
    omega arith

-- An act that is accepted beyond the bounds (part 2).
pub bounds_left : Demand3 (counter 1 0) 1 (λ s. s ≤ 0) 0 → ⊥
unfolding books ledger at lone
bounds_left demand =
    let over : 1 ≤ 0 = ((demand (act 0 tt ∷ []) (lit< tt, tt)).accepted 1 0 (lit≤ tt) (lit< tt)).0.1 in
    omega arith

-- The copy that a desk makes of its own newest state is one it may take: histories have it, and so the claim speaks of it.
pub own_newest_copy : (R : Replica) (n d : ℕ) (h : History R) → d < n → Valid n h → Valid n (take d d (length h) ∷ h)
own_newest_copy R n d h l v = (l, l, le_refl (length h), v)
