-- What an accepted act does to each right of each desk, and that it keeps a pile lawful. It adds to one tally, which is
-- one desk's debit and at most one desk's credit.
-- Assumes nothing.
use Prim.Native.Nat.{ℕ, ◌+◌, ◌≤◌, ◌<◌}
use native.Mathlib.Omega.{arith}
use native.Mathlib.Nat.{add-zero, pos_of_ne-zero, ne_of_gt}
use mathlib.Core.Path.{◌≡◌, refl, ap, sym, ◌∙◌}
use mathlib.Core.Logic.{◌≢◌}
use mathlib.Core.Bool.{Bool, true, false, cond, not, false≢true}
use lib.Dec.{eqb, ltb}
use borrow.Author.Tests.{eqb-true, eqb-false, ltb-true, ltb-false, not-false, lt-ltb, le-ltb, ne_eqb}
use Rattle.rules.specs.Loops.{◌and◌, sum}
use Rattle.rules.specs.Refusals.{◌when◌, ◌or_else◌}
use Rattle.rules.specs.Pile.{Side, draw, tip, other, Pile, credit, debit, rights, tally_limit, amount_limit}
use Rattle.rules.specs.Acts.{Kind, spend, give, side, tally, receiver_wrong, act_refusal}
use Rattle.rules.proofs.Loops.Logic.{and_true, and_false, and_swap, and_last, and_left, and_right, or_left, or_right, or_neither}
use Rattle.rules.proofs.Loops.Refusals.{when_done, or_else_first, or_else_rest}
use Rattle.rules.proofs.Loops.Sums.{sum_cong, sum_add, sum_at, sum_zero}
use Rattle.rules.proofs.Pile.Facts.{PileFacts}

abbrev pub same_side : Side → Side → Bool
same_side draw draw = true
same_side draw tip = false
same_side tip draw = false
same_side tip tip = true

-- the pile after an act of desk i: t more in that one tally
unfoldable pub acted : Pile → ℕ → Kind → ℕ → Pile
acted p i (spend s) t =
    record {
      floor = p.floor;
      top = p.top;
      share = p.share;
      earned = λ s' k. cond (same_side s' (other s) and eqb k i) (p.earned s' k + t) (p.earned s' k);
      give = p.give;
    }
acted p i (give s j) t =
    record {
      floor = p.floor;
      top = p.top;
      share = p.share;
      earned = p.earned;
      give = λ s' k l. cond (same_side s' s and (eqb k i and eqb l j)) (p.give s' k l + t) (p.give s' k l);
    }

-- t where the test holds, and otherwise nothing
abbrev pub part_of : Bool → ℕ → ℕ
part_of b t = cond b t 0

-- what an act of desk i with amount t adds to the credit of side s at desk k, and to the debit
abbrev pub gain : ℕ → Kind → ℕ → Side → ℕ → ℕ
gain i (spend s') t s k = part_of (same_side s (other s') and eqb k i) t
gain i (give s' j) t s k = part_of (same_side s s' and eqb k j) t

abbrev pub loss : ℕ → Kind → ℕ → Side → ℕ → ℕ
loss i kind t s k = part_of (same_side s (side kind) and eqb k i) t

more : (b : Bool) (x t : ℕ) → cond b (x + t) x ≡ x + part_of b t
more true x t = refl
more false x t = sym (add-zero x)

-- t at one place of a sum, under a test that does not depend on the place
sum_part : (n i t : ℕ) → i < n → (b : Bool) → sum n (λ k. part_of (eqb k i and b) t) ≡ part_of b t
unfolding ◌and◌
sum_part n i t l true = sum_cong n (λ k m. ap (λ (c : Bool). part_of c t) (and_true (eqb k i))) ∙ sum_at n i t l
sum_part n i t l false = sum_cong n (λ k m. ap (λ (c : Bool). part_of c t) (and_false (eqb k i))) ∙ sum_zero n

-- so many more at that place: the sum grows by as much
sum_more : (n i t : ℕ) (f : ℕ → ℕ) → i < n → (b : Bool) (u : ℕ → Bool) → ((k : ℕ) → u k ≡ eqb k i and b)
    → sum n (λ k. cond (u k) (f k + t) (f k)) ≡ sum n f + part_of b t
sum_more n i t f l b u e =
    sum_cong n (λ k m. more (u k) (f k) t ∙ ap (λ (c : Bool). f k + part_of c t) (e k))
    ∙ sum_add n f (λ k. part_of (eqb k i and b) t)
    ∙ ap (λ (x : ℕ). sum n f + x) (sum_part n i t l b)

same_other : (s s' : Side) → same_side (other s) (other s') ≡ same_side s s'
same_other draw draw = refl
same_other draw tip = refl
same_other tip draw = refl
same_other tip tip = refl

-- the receiver of a give is another desk below n
abbrev pub Receives : ℕ → ℕ → Kind → Type 0
Receives n i (spend s) = Unit {0}
Receives n i (give s j) = (j < n) × (j ≢ i)

-- an act is accepted exactly where these plain facts hold
pub record ActFacts (n : ℕ) (p : Pile) (i : ℕ) (kind : Kind) (t : ℕ) : Type 0 where
  pub receives : Receives n i kind
  pub positive : 0 < t
  pub amount_limit_lem : t ≤ amount_limit
  pub enough : t ≤ rights n p (side kind) i
  pub room : tally p i kind + t ≤ tally_limit

pub receiver : (n i : ℕ) (kind : Kind) → receiver_wrong n i kind ≡ false → Receives n i kind
receiver n i (spend s) e = tt
receiver n i (give s j) e =
    (ltb-true j n (not-false (ltb j n) (or_left _ _ e)), λ q. eqb-false j i (or_right _ _ e) q)

receiver_passes : (n i : ℕ) (kind : Kind) → Receives n i kind → receiver_wrong n i kind ≡ false
receiver_passes n i (spend s) r = refl
receiver_passes n i (give s j) r = or_neither (ap not (lt-ltb j n r.0)) (ne_eqb j i r.1)

pub act_facts : (n : ℕ) (p : Pile) (i : ℕ) (kind : Kind) (t : ℕ) → act_refusal n p i kind t ≡ 0 → ActFacts n p i kind t
unfolding act_refusal
act_facts n p i kind t e =
    let amount = when_done _ _ (or_else_first _ _ (or_else_rest _ _ e)) in
    let rest = or_else_rest _ _ (or_else_rest _ _ e) in
    record {
      receives = receiver n i kind (when_done _ _ (or_else_first _ _ e));
      positive = pos_of_ne-zero (eqb-false t 0 (or_left _ _ amount));
      amount_limit_lem = ltb-false amount_limit t (or_right _ _ amount);
      enough = ltb-false _ _ (when_done _ _ (or_else_first _ _ rest));
      room = ltb-false _ _ (when_done _ _ (or_else_rest _ _ rest));
    }

pub act_passes : (n : ℕ) (p : Pile) (i : ℕ) (kind : Kind) (t : ℕ) → ActFacts n p i kind t → act_refusal n p i kind t ≡ 0
unfolding act_refusal ◌when◌ ◌or_else◌
act_passes n p i kind t f =
    rw (
      receiver_passes n i kind f.receives,
      or_neither (ne_eqb t 0 (ne_of_gt f.positive)) (le-ltb amount_limit t f.amount_limit_lem),
      le-ltb (rights n p (side kind) i) t f.enough,
      le-ltb tally_limit (tally p i kind + t) f.room,
    )

module _ (n : ℕ) (p : Pile) (i t : ℕ) (i<n : i < n) where
  credit_acted : (kind : Kind) (s : Side) (k : ℕ) → credit n (acted p i kind t) s k ≡ credit n p s k + gain i kind t s k
  unfolding credit acted
  credit_acted (spend s') s k = omega (arith, more (same_side s (other s') and eqb k i) (p.earned s k) t)
  credit_acted (give s' j) s k =
      omega (
        arith,
        sum_more n i t (λ m. p.give s m k) i<n (same_side s s' and eqb k j) (λ m. same_side s s' and (eqb m i and eqb k j))
            (λ m. and_swap (same_side s s') (eqb m i) (eqb k j)),
      )

  debit_acted : (kind : Kind) → Receives n i kind → (s : Side) (k : ℕ)
      → debit n (acted p i kind t) s k ≡ debit n p s k + loss i kind t s k
  unfolding debit acted
  debit_acted (spend s') r s k =
      omega (
        arith,
        more (same_side (other s) (other s') and eqb k i) (p.earned (other s) k) t
            ∙ ap (λ (b : Bool). p.earned (other s) k + part_of (b and eqb k i) t) (same_other s s'),
      )
  debit_acted (give s' j) r s k =
      omega (
        arith,
        sum_more n j t (p.give s k) r.0 (same_side s s' and eqb k i) (λ m. same_side s s' and (eqb k i and eqb m j))
            (λ m. and_last (same_side s s') (eqb k i) (eqb m j)),
      )

-- a test that holds at a side and a desk
pub same_is : (s s' : Side) → same_side s s' ≡ true → s ≡ s'
same_is draw draw e = refl
same_is draw tip e = absurd (false≢true e)
same_is tip draw e = absurd (false≢true e)
same_is tip tip e = refl

pub here : (s s' : Side) (k i : ℕ) → same_side s s' and eqb k i ≡ true → (s ≡ s') × (k ≡ i)
here s s' k i e = (same_is s s' (and_left _ _ e), eqb-true k i (and_right _ _ e))

pub there : (s s' : Side) (k i l j : ℕ) → same_side s s' and eqb k i and eqb l j ≡ true → (s ≡ s') × (k ≡ i) × (l ≡ j)
there s s' k i l j e =
    (same_is s s' (and_left _ _ e), eqb-true k i (and_left _ _ (and_right _ _ e)), eqb-true l j (and_right _ _ (and_right _ _ e)))

module _ (n : ℕ) (p : Pile) (i : ℕ) (kind : Kind) (t : ℕ) (i<n : i < n) (f : PileFacts n p) (a : ActFacts n p i kind t) where
  -- what is spent or given is covered by the rights of that side
  loss_covered : (s : Side) (k : ℕ) → k < n → debit n p s k + loss i kind t s k ≤ credit n p s k
  unfolding rights
  loss_covered s k k<n = go (same_side s (side kind) and eqb k i) refl
    where
      go : (b : Bool) → same_side s (side kind) and eqb k i ≡ b → debit n p s k + part_of b t ≤ credit n p s k
      go true e =
          let at = here s (side kind) k i e in
          rw (at.0, at.1) (omega (arith, a.enough, f.covered (side kind) i i<n))
      go false e = omega (arith, f.covered s k k<n)

  pub covered_acted : (s : Side) (k : ℕ) → k < n → debit n (acted p i kind t) s k ≤ credit n (acted p i kind t) s k
  covered_acted s k k<n =
      omega
      (arith, credit_acted n p i t i<n kind s k, debit_acted n p i t i<n kind a.receives s k, loss_covered s k k<n)

  -- what an accepted act does to each right of each desk
  pub rights_acted : (s : Side) (k : ℕ) → k < n
      → rights n (acted p i kind t) s k + loss i kind t s k ≡ rights n p s k + gain i kind t s k
  unfolding rights
  rights_acted s k k<n =
      omega
      (arith, credit_acted n p i t i<n kind s k, debit_acted n p i t i<n kind a.receives s k, loss_covered s k k<n)

-- the one tally grows by t, so what holds of every other number, and of that tally with t more, holds of all
one_more : (P : ℕ → Type 0) (b : Bool) (x t : ℕ) → (b ≡ true → P (x + t)) → P x → P (cond b (x + t) x)
one_more P true x t grown same = grown refl
one_more P false x t grown same = same

-- an accepted act keeps a pile lawful
pub facts_acted : (n : ℕ) (p : Pile) (i : ℕ) (kind : Kind) (t : ℕ) → i < n → PileFacts n p → ActFacts n p i kind t
    → PileFacts n (acted p i kind t)
unfolding acted
facts_acted n p i (spend s) t i<n f a =
    record {
      opening = record { floor_top = f.opening.floor_top; top_limit_lem = f.opening.top_limit_lem; shares = f.opening.shares };
      earned_limit = λ s' k l. one_more (λ x. x ≤ tally_limit) (same_side s' (other s) and eqb k i) _ t
          (λ e. let at = here s' (other s) k i e in rw (at.0, at.1) a.room) (f.earned_limit s' k l);
      give_limit = f.give_limit;
      give_self = f.give_self;
      covered = covered_acted n p i (spend s) t i<n f a;
    }
facts_acted n p i (give s j) t i<n f a =
    record {
      opening = record { floor_top = f.opening.floor_top; top_limit_lem = f.opening.top_limit_lem; shares = f.opening.shares };
      earned_limit = f.earned_limit;
      give_limit = λ s' k m l l'. one_more (λ x. x ≤ tally_limit) (same_side s' s and eqb k i and eqb m j) _ t
          (λ e. let at = there s' s k i m j e in rw (at.0, at.1, at.2) a.room) (f.give_limit s' k m l l');
      give_self = λ s' k l. one_more (λ x. x ≡ 0) (same_side s' s and eqb k i and eqb k j) _ t
          (λ e. let at = there s' s k i k j e in absurd (a.receives.1 (sym at.2 ∙ at.1))) (f.give_self s' k l);
      covered = covered_acted n p i (give s j) t i<n f a;
    }
