-- The piles that a list of entered acts leaves: each tally of a desk is what it was at the start and the amounts of that desk's own acts that name it.
-- Assumes nothing.
use Prim.Native.Nat.{ℕ, ◌+◌, ◌≤◌}
use native.Mathlib.Nat.{add-zero, add_assoc}
use native.Mathlib.Omega.{arith}
use mathlib.Core.Path.{◌≡◌, refl, ap, sym, subst, ◌∙◌}
use mathlib.Core.Logic.{⊎_elim}
use mathlib.Core.Bool.{Bool, true, false, cond}
use mathlib.Core.List.{List, [], ◌∷◌, ◌++◌}
use lib.Dec.{eqb}
use borrow.Author.Tests.{eqb-true, eqb-false, eq-eqb, ne_eqb}
use Rattle.history.proofs.Laws.{own, Ends}
use Rattle.rules.specs.Loops.{◌and◌, index}
use Rattle.rules.specs.Pile.{Side, other, Pile}
use Rattle.rules.specs.Acts.{Kind, spend, give, Act}
use Rattle.rules.proofs.Pile.Acted.{same_side, acted}
use Rattle.rules.proofs.Loops.Logic.{decided, and_comm, and_swap, and_false, and_left_holds, and_left_fails, and_right_fails}
use Rattle.rules.proofs.Pile.Agree.{Agree}
use Rattle.rules.proofs.File.AfterAct.{acted_at}

-- the amounts of those acts of a list that pass a test
abbrev pub added : (Act → Bool) → List Act → ℕ
added t [] = 0
added t (a ∷ xs) = cond (t a) (added t xs + a.amount) (added t xs)

pub added_append : (t : Act → Bool) (xs ys : List Act) → added t (xs ++ ys) ≡ added t xs + added t ys
added_append t [] ys = omega arith
added_append t (a ∷ xs) ys = go (t a) (added_append t xs ys)
  where
    go : (b : Bool) → added t (xs ++ ys) ≡ added t xs + added t ys
        → cond b (added t (xs ++ ys) + a.amount) (added t (xs ++ ys)) ≡ cond b (added t xs + a.amount) (added t xs) + added t ys
    go true e = omega arith
    go false e = e

-- an earlier stage of a desk's acts has added less
pub added_ends : (t : Act → Bool) (xs ys : List Act) → Ends xs ys → added t xs ≤ added t ys
added_ends t xs ys e = subst (λ (l : List Act). added t xs ≤ added t l) e.1 (omega (arith, added_append t e.0 xs))

-- does an act add to the tally that earns rights of a side; to the gives of a side to a desk
abbrev pub earns : Kind → Side → Bool
earns (spend s') s = same_side s (other s')
earns (give s' j') s = false

abbrev pub gives : Kind → Side → ℕ → Bool
gives (spend s') s j = false
gives (give s' j') s j = same_side s s' and eqb j j'

eqb_sym : (x y : ℕ) → eqb x y ≡ eqb y x
eqb_sym x y =
    ⊎_elim (λ e. e ∙ sym (eq-eqb y x (sym (eqb-true x y e)))) (λ e. e ∙ sym (ne_eqb y x (λ q. eqb-false x y e (sym q))))
    (decided (eqb x y))

-- What one act more, entered by desk d, makes of a tally of desk i that had x: t more where the act names it, and otherwise the same.
module _ (t : Act → Bool) (d : ℕ) (a : Act) (es : List (ℕ × Act)) (i x : ℕ) where
  abbrev before : ℕ
  before = x + added t (own i es)

  tally_entered : cond (eqb i d and t a) (before + a.amount) before ≡ x + added t (own i ((d, a) ∷ es))
  unfolding ◌and◌
  tally_entered = go (eqb i d) (t a) refl ∙ ap (λ (b : Bool). x + added t (cond b (a ∷ own i es) (own i es))) (eqb_sym i d)
    where
      go : (b c : Bool) → t a ≡ c → cond (b and c) (before + a.amount) before ≡ x + added t (cond b (a ∷ own i es) (own i es))
      go true true e = rw e (add_assoc x (added t (own i es)) a.amount)
      go true false e = rw e
      go false c e = refl

  tally_named : (named : Bool) → named ≡ eqb i d and t a → cond named (before + a.amount) before ≡ x + added t (own i ((d, a) ∷ es))
  tally_named named e = ap (λ (b : Bool). cond b (before + a.amount) before) e ∙ tally_entered

  tally_kept : t a ≡ false → before ≡ x + added t (own i ((d, a) ∷ es))
  tally_kept e = tally_named false (sym (and_right_fails (eqb i d) e))

-- where a pile number stands in the contents
abbrev pub at : ℕ → (ℕ → ℕ) → ℕ → ℕ
at p numbers number = index p (λ k. eqb (numbers k) number)

-- does an act name those tallies of pile k
abbrev pub earns_at : ℕ → (ℕ → ℕ) → ℕ → Side → Act → Bool
earns_at p numbers k s a = eqb k (at p numbers a.pile) and earns a.kind s

abbrev pub gives_at : ℕ → (ℕ → ℕ) → ℕ → Side → ℕ → Act → Bool
gives_at p numbers k s j a = eqb k (at p numbers a.pile) and gives a.kind s j

module _ (p : ℕ) (numbers : ℕ → ℕ) (start : ℕ → Pile) where
  abbrev pub grown : List (ℕ × Act) → ℕ → Pile
  grown es k =
      record {
        floor = (start k).floor;
        top = (start k).top;
        share = (start k).share;
        earned = λ s i. (start k).earned s i + added (earns_at p numbers k s) (own i es);
        give = λ s i j. (start k).give s i j + added (gives_at p numbers k s j) (own i es);
      }

  pub grown_none : (n k : ℕ) → Agree n (start k) (grown [] k)
  grown_none n k =
      record {
        floor = refl;
        top = refl;
        share = λ s i l. refl;
        earned = λ s i l. sym (add-zero _);
        give = λ s i j l m. sym (add-zero _);
      }

  -- entering one act more
  pub one_more : (n d q t : ℕ) (kind : Kind) (es : List (ℕ × Act)) (k : ℕ) (b : Bool) → eqb k (at p numbers q) ≡ b
      → Agree n (cond b (acted (grown es k) d kind t) (grown es k)) (grown ((d, record { kind = kind; pile = q; amount = t }) ∷ es) k)
  unfolding acted
  one_more n d q t (spend s') es k true e =
      record {
        floor = refl;
        top = refl;
        share = λ s i l. refl;
        earned = λ s i l. tally_named _ d _ es i _ (same_side s (other s') and eqb i d)
            (and_comm (same_side s (other s')) (eqb i d) ∙ ap (λ (b : Bool). eqb i d and b) (and_left_holds e (same_side s (other s'))));
        give = λ s i j l m. tally_kept _ d _ es i _ (and_false (eqb k (at p numbers q)));
      }
  one_more n d q t (give s' j') es k true e =
      record {
        floor = refl;
        top = refl;
        share = λ s i l. refl;
        earned = λ s i l. tally_kept _ d _ es i _ (and_false (eqb k (at p numbers q)));
        give = λ s i j l m. tally_named _ d _ es i _ (same_side s s' and eqb i d and eqb j j')
            (and_swap (same_side s s') (eqb i d) (eqb j j') ∙ ap (λ (b : Bool). eqb i d and b) (and_left_holds e (same_side s s' and eqb j j')));
      }
  one_more n d q t kind es k false e =
      record {
        floor = refl;
        top = refl;
        share = λ s i l. refl;
        earned = λ s i l. tally_kept _ d _ es i _ (and_left_fails e (earns kind s));
        give = λ s i j l m. tally_kept _ d _ es i _ (and_left_fails e (gives kind s j));
      }

  pub grown_acted : (n d : ℕ) (a : Act) (es : List (ℕ × Act)) (k : ℕ)
      → Agree n (acted_at (grown es) (at p numbers a.pile) d a.kind a.amount k) (grown ((d, a) ∷ es) k)
  grown_acted n d a es k = one_more n d a.pile a.amount a.kind es k (eqb k (at p numbers a.pile)) refl
