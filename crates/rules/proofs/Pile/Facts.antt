-- A pile passes its check exactly where these plain facts hold of it.
-- Assumes nothing.
use Prim.Native.Nat.{ℕ, ◌+◌, ◌-◌, ◌≤◌, ◌<◌}
use mathlib.Core.Path.{◌≡◌}
use mathlib.Core.Bool.{Bool, true}
use lib.Dec.{leb, eqb}
use borrow.Author.Tests.{leb-true, eqb-true, le-leb, eq-eqb}
use Rattle.rules.specs.Loops.{◌and◌, sum, every}
use Rattle.rules.specs.Refusals.{◌when◌, ◌or_else◌}
use Rattle.rules.specs.Pile.{Side, draw, tip, both_sides, Pile, credit, debit, top_limit, tally_limit, lawful, opening_lawful, tallies_lawful, pile_answer}
use Rattle.rules.proofs.Loops.Logic.{and_left, and_right, and_both}
use Rattle.rules.proofs.Loops.Every.{every_at, every_all}
use Rattle.rules.proofs.Loops.Refusals.{when_not_done, or_else_first, or_else_rest}

pub record OpeningFacts (n : ℕ) (p : Pile) : Type 0 where
  pub floor_top : p.floor ≤ p.top
  pub top_limit_lem : p.top ≤ top_limit
  pub shares : sum n (p.share draw) + sum n (p.share tip) ≡ p.top - p.floor

pub record PileFacts (n : ℕ) (p : Pile) : Type 0 where
  pub opening : OpeningFacts n p
  pub earned_limit : (s : Side) (i : ℕ) → i < n → p.earned s i ≤ tally_limit
  pub give_limit : (s : Side) (i j : ℕ) → i < n → j < n → p.give s i j ≤ tally_limit
  pub give_self : (s : Side) (i : ℕ) → i < n → p.give s i i ≡ 0
  -- no rights are negative
  pub covered : (s : Side) (i : ℕ) → i < n → debit n p s i ≤ credit n p s i

pub both_at : (t : Side → Bool) → both_sides t ≡ true → (s : Side) → t s ≡ true
unfolding both_sides
both_at t e draw = and_left _ _ e
both_at t e tip = and_right _ _ e

pub both_all : {t : Side → Bool} → ((s : Side) → t s ≡ true) → both_sides t ≡ true
unfolding both_sides
both_all h = and_both (h draw) (h tip)

pub opening_facts : (n : ℕ) (p : Pile) → opening_lawful n p ≡ true → OpeningFacts n p
unfolding opening_lawful
opening_facts n p e =
    record {
      floor_top = leb-true _ _ (and_left _ _ e);
      top_limit_lem = leb-true _ _ (and_left _ _ (and_right _ _ e));
      shares = eqb-true _ _ (and_right _ _ (and_right _ _ e));
    }

pub opening_passes : (n : ℕ) (p : Pile) → OpeningFacts n p → opening_lawful n p ≡ true
unfolding opening_lawful
opening_passes n p o = and_both (le-leb _ _ o.floor_top) (and_both (le-leb _ _ o.top_limit_lem) (eq-eqb _ _ o.shares))

module _ (n : ℕ) (p : Pile) where
  tallies : (i : ℕ) → tallies_lawful n p i ≡ true → (s : Side)
      → leb (p.earned s i) tally_limit and every n (λ j. leb (p.give s i j) tally_limit) and eqb (p.give s i i) 0 ≡ true
  unfolding tallies_lawful
  tallies i e s = both_at _ e s

  covers : lawful n p ≡ true → (s : Side) (i : ℕ) → i < n → debit n p s i ≤ credit n p s i
  unfolding lawful
  covers e s i l = leb-true _ _ (both_at _ (every_at n _ e i l) s)

  pub facts : pile_answer n p ≡ 0 → PileFacts n p
  unfolding pile_answer
  facts e =
      let tested : (i : ℕ) → i < n → tallies_lawful n p i ≡ true
      = every_at n (tallies_lawful n p) (when_not_done _ _ (or_else_first _ _ (or_else_rest _ _ e))) in
      record {
        opening = opening_facts n p (when_not_done _ _ (or_else_first _ _ e));
        earned_limit = λ s i l. leb-true _ _ (and_left _ _ (tallies i (tested i l) s));
        give_limit = λ s i j l m. leb-true _ _ (every_at n _ (and_left _ _ (and_right _ _ (tallies i (tested i l) s))) j m);
        give_self = λ s i l. eqb-true _ _ (and_right _ _ (and_right _ _ (tallies i (tested i l) s)));
        covered = covers (when_not_done _ _ (or_else_rest _ _ (or_else_rest _ _ e)));
      }

  tallies_pass : PileFacts n p → (i : ℕ) → i < n → tallies_lawful n p i ≡ true
  unfolding tallies_lawful
  tallies_pass f i l =
      both_all
      (λ s. and_both (le-leb _ _ (f.earned_limit s i l))
      (and_both (every_all n (λ j m. le-leb _ _ (f.give_limit s i j l m))) (eq-eqb _ _ (f.give_self s i l))))

  rights_pass : PileFacts n p → lawful n p ≡ true
  unfolding lawful
  rights_pass f = every_all n (λ i l. both_all (λ s. le-leb _ _ (f.covered s i l)))

  pub passes : PileFacts n p → pile_answer n p ≡ 0
  unfolding pile_answer ◌when◌ ◌or_else◌
  passes f = rw (opening_passes n p f.opening, every_all n (tallies_pass f), rights_pass f)
