-- Piles whose numbers agree as far as n desks go: every rule answers alike of them.
-- Assumes nothing.
use Prim.Native.Nat.{ℕ, ◌+◌, ◌-◌, ◌≤◌, ◌<◌}
use mathlib.Core.Path.{◌≡◌, refl, ap, ap₂, sym, subst, ◌∙◌}
use mathlib.Core.Bool.{Bool, cond, true}
use lib.Dec.{leb, eqb}
use borrow.Author.Tests.{eq-eqb}
use Rattle.rules.specs.Loops.{◌and◌, every}
use Rattle.rules.specs.Pile.{Side, draw, tip, other, both_sides, Pile, credit, debit, rights, tally_limit, lawful, tonnage, opening_lawful, tallies_lawful, pile_answer, same_opening}
use Rattle.rules.specs.Acts.{Kind, spend, give, side, tally}
use Rattle.rules.proofs.Loops.Logic.{and_both}
use Rattle.rules.proofs.Loops.Every.{every_cong, every_all}
use Rattle.rules.proofs.Loops.Sums.{sum_cong}
use Rattle.rules.proofs.Pile.Facts.{OpeningFacts, PileFacts, both_all}
use Rattle.rules.proofs.Pile.Acted.{same_side, acted, Receives, ActFacts}

-- two piles have the same numbers, as far as n desks go
pub record Agree (n : ℕ) (p q : Pile) : Type 0 where
  pub floor : p.floor ≡ q.floor
  pub top : p.top ≡ q.top
  pub share : (s : Side) (i : ℕ) → i < n → p.share s i ≡ q.share s i
  pub earned : (s : Side) (i : ℕ) → i < n → p.earned s i ≡ q.earned s i
  pub give : (s : Side) (i j : ℕ) → i < n → j < n → p.give s i j ≡ q.give s i j

pub agree_refl : {n : ℕ} {p : Pile} → Agree n p p
agree_refl =
    record {
      floor = refl;
      top = refl;
      share = λ s i l. refl;
      earned = λ s i l. refl;
      give = λ s i j l m. refl;
    }

pub agree_sym : {n : ℕ} {p q : Pile} → Agree n p q → Agree n q p
agree_sym a =
    record {
      floor = sym a.floor;
      top = sym a.top;
      share = λ s i l. sym (a.share s i l);
      earned = λ s i l. sym (a.earned s i l);
      give = λ s i j l m. sym (a.give s i j l m);
    }

pub agree_trans : {n : ℕ} {p q r : Pile} → Agree n p q → Agree n q r → Agree n p r
agree_trans a b =
    record {
      floor = a.floor ∙ b.floor;
      top = a.top ∙ b.top;
      share = λ s i l. a.share s i l ∙ b.share s i l;
      earned = λ s i l. a.earned s i l ∙ b.earned s i l;
      give = λ s i j l m. a.give s i j l m ∙ b.give s i j l m;
    }

both_cong : {t u : Side → Bool} → ((s : Side) → t s ≡ u s) → both_sides t ≡ both_sides u
unfolding both_sides
both_cong h = ap₂ ◌and◌ (h draw) (h tip)

module _ (n : ℕ) (p q : Pile) (a : Agree n p q) where
  credit_cong : (s : Side) (i : ℕ) → i < n → credit n p s i ≡ credit n q s i
  unfolding credit
  credit_cong s i l =
      ap₂ ◌+◌ (ap₂ ◌+◌ (a.share s i l) (a.earned s i l)) (sum_cong n (λ j m. a.give s j i m l))

  debit_cong : (s : Side) (i : ℕ) → i < n → debit n p s i ≡ debit n q s i
  unfolding debit
  debit_cong s i l = ap₂ ◌+◌ (sum_cong n (λ j m. a.give s i j l m)) (a.earned (other s) i l)

  pub rights_cong : (s : Side) (i : ℕ) → i < n → rights n p s i ≡ rights n q s i
  unfolding rights
  rights_cong s i l = ap₂ ◌-◌ (credit_cong s i l) (debit_cong s i l)

  pub tonnage_cong : tonnage n p ≡ tonnage n q
  unfolding tonnage
  tonnage_cong = rw (a.floor, sum_cong n (a.share draw), sum_cong n (a.earned draw), sum_cong n (a.earned tip))

  -- the tests, and so the answer
  pub opening_test_cong : opening_lawful n p ≡ opening_lawful n q
  unfolding opening_lawful
  opening_test_cong = rw (a.floor, a.top, sum_cong n (a.share draw), sum_cong n (a.share tip))

  pub tallies_test_cong : every n (tallies_lawful n p) ≡ every n (tallies_lawful n q)
  unfolding tallies_lawful
  tallies_test_cong =
      every_cong n (λ i l. both_cong (λ s. ap₂ ◌and◌ (ap (λ (x : ℕ). leb x tally_limit) (a.earned s i l))
      (ap₂ ◌and◌ (every_cong n (λ j m. ap (λ (x : ℕ). leb x tally_limit) (a.give s i j l m)))
      (ap (λ (x : ℕ). eqb x 0) (a.give s i i l l)))))

  pub lawful_test_cong : lawful n p ≡ lawful n q
  unfolding lawful
  lawful_test_cong = every_cong n (λ i l. both_cong (λ s. ap₂ leb (debit_cong s i l) (credit_cong s i l)))

  pub answer_cong : pile_answer n p ≡ pile_answer n q
  unfolding pile_answer
  answer_cong = rw (opening_test_cong, tallies_test_cong, lawful_test_cong)

  pub opening_cong : OpeningFacts n p → OpeningFacts n q
  opening_cong o =
      record {
        floor_top = rw (← a.floor, ← a.top) o.floor_top;
        top_limit_lem = rw (← a.top) o.top_limit_lem;
        shares =
            sym (ap₂ ◌+◌ (sum_cong n (a.share draw)) (sum_cong n (a.share tip))) ∙ o.shares ∙ ap₂ ◌-◌ a.top a.floor;
      }

  pub facts_cong : PileFacts n p → PileFacts n q
  facts_cong f =
      record {
        opening = opening_cong f.opening;
        earned_limit = λ s i l. subst (λ (x : ℕ). x ≤ tally_limit) (a.earned s i l) (f.earned_limit s i l);
        give_limit = λ s i j l m. subst (λ (x : ℕ). x ≤ tally_limit) (a.give s i j l m) (f.give_limit s i j l m);
        give_self = λ s i l. sym (a.give s i i l l) ∙ f.give_self s i l;
        covered = λ s i l. rw (← credit_cong s i l, ← debit_cong s i l) (f.covered s i l);
      }

  pub tally_cong : (i : ℕ) (kind : Kind) → i < n → Receives n i kind → tally p i kind ≡ tally q i kind
  tally_cong i (spend s) l r = a.earned (other s) i l
  tally_cong i (give s j) l r = a.give s i j l r.0

  pub act_facts_cong : (i : ℕ) (kind : Kind) (t : ℕ) → i < n → ActFacts n p i kind t → ActFacts n q i kind t
  act_facts_cong i kind t l f =
      record {
        receives = f.receives;
        positive = f.positive;
        amount_limit_lem = f.amount_limit_lem;
        enough = subst (λ (x : ℕ). t ≤ x) (rights_cong (side kind) i l) f.enough;
        room = subst (λ (x : ℕ). x + t ≤ tally_limit) (tally_cong i kind l f.receives) f.room;
      }

  -- an act leaves piles that agree in agreement
  pub acted_cong : (i : ℕ) (kind : Kind) (t : ℕ) → Agree n (acted p i kind t) (acted q i kind t)
  unfolding acted
  acted_cong i (spend s) t =
      record {
        floor = a.floor;
        top = a.top;
        share = a.share;
        earned = λ s' k l. ap (λ (x : ℕ). cond (same_side s' (other s) and eqb k i) (x + t) x) (a.earned s' k l);
        give = a.give;
      }
  acted_cong i (give s j) t =
      record {
        floor = a.floor;
        top = a.top;
        share = a.share;
        earned = a.earned;
        give = λ s' k m l l'. ap (λ (x : ℕ). cond (same_side s' s and eqb k i and eqb m j) (x + t) x) (a.give s' k m l l');
      }

-- piles whose openings agree, whatever their tallies
pub same_opening_lem : (n : ℕ) (p q : Pile) → p.floor ≡ q.floor → p.top ≡ q.top → ((s : Side) (i : ℕ) → i < n → p.share s i ≡ q.share s i)
    → same_opening n p q ≡ true
unfolding same_opening
same_opening_lem n p q floor top share =
    and_both (eq-eqb _ _ floor) (and_both (eq-eqb _ _ top) (every_all n (λ i l. both_all (λ s. eq-eqb _ _ (share s i l)))))
