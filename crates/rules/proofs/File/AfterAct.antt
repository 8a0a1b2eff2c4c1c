-- The book after an accepted act is the book with that act entered in its one pile, written anew: one number was put, and all others stand apart from it.
-- Assumes nothing.
use Prim.Native.Nat.{ℕ, suc, ◌+◌, ◌≤◌, ◌<◌, suc-le-suc}
use native.Mathlib.Nat.{suc_inj}
use native.Mathlib.Omega.{arith}
use mathlib.Core.Path.{◌≡◌, refl, sym, ◌∙◌}
use mathlib.Core.Logic.{◌⊎◌, inl, inr, ⊎_elim, ⊎_map, ◌≢◌}
use mathlib.Core.Bool.{Bool, true, false, cond, true≢false}
use mathlib.Core.List.{List}
use lib.ListN.{length}
use lib.Dec.{eqb}
use borrow.Author.Tests.{eqb-true, eqb-false}
use Rattle.rules.specs.Loops.{◌and◌}
use Rattle.rules.specs.Pile.{Side, draw, tip, other, Pile}
use Rattle.rules.specs.Acts.{Kind, spend, give, Act, tally}
use Rattle.rules.specs.Layout.{head_of, body_at, column, earned_column, act_column, body_view, desks, piles, pile_number, pile_of, book_bytes, columns}
use Rattle.rules.specs.Book.{book_answer, place, desk_answer, act_answer, tally_at, after_act}
use Rattle.rules.proofs.Loops.Logic.{and_fails}
use Rattle.rules.proofs.Loops.Refusals.{when_accepted, or_else_first, or_else_rest}
use Rattle.rules.proofs.Bytes.Numbers.{Octets}
use Rattle.rules.proofs.Pile.Facts.{PileFacts, facts}
use Rattle.rules.proofs.Pile.Acted.{same_side, acted, Receives, ActFacts, act_facts, facts_acted, here, there}
use Rattle.rules.proofs.Pile.Agree.{Agree}
use Rattle.rules.proofs.File.Body.{column_below, earned_below}
use Rattle.rules.proofs.File.Positions.{body_within}
use Rattle.rules.proofs.File.Cells.{cell_fits}
use Rattle.rules.proofs.File.Readable.{book_facts}
use Rattle.rules.proofs.File.Found.{found_readable, found_desk, found_place}
use Rattle.rules.proofs.File.PutCell.{put_cell, Puts, put_cell_lem, put_pile, put_beside, put_written}

-- what an accepted act tells
module _ (i : ℕ) (a : Act) (b : List ℕ) (accepted : act_answer i a b ≡ 0) where
  pub act_found : desk_answer i b a.pile ≡ 0
  unfolding act_answer
  act_found = or_else_first _ _ accepted

  pub act_readable : book_answer b ≡ 0
  act_readable = found_readable i b a.pile act_found

  pub act_desk : i < desks b
  act_desk = found_desk i b a.pile act_found

  pub act_pile : place b a.pile < piles b
  act_pile = found_place i b a.pile act_found

  pub act_allowed : ActFacts (desks b) (pile_of b (place b a.pile)) i a.kind a.amount
  unfolding act_answer
  act_allowed = act_facts _ _ _ _ _ (or_else_rest _ _ accepted)

-- the piles after an act of desk i on pile k
abbrev pub acted_at : (ℕ → Pile) → ℕ → ℕ → Kind → ℕ → ℕ → Pile
acted_at P k i kind t k' = cond (eqb k' k) (acted (P k') i kind t) (P k')

acted_at_facts : (n : ℕ) (P : ℕ → Pile) (k i : ℕ) (kind : Kind) (t : ℕ) → i < n → ActFacts n (P k) i kind t → (k' : ℕ) → PileFacts n (P k')
    → PileFacts n (acted_at P k i kind t k')
acted_at_facts n P k i kind t l a k' f = go (eqb k' k) refl
  where
    go : (b : Bool) → eqb k' k ≡ b → PileFacts n (cond b (acted (P k') i kind t) (P k'))
    go true e = facts_acted n (P k') i kind t l f (rw (eqb-true k' k e) a)
    go false e = f

-- the act's column is one of its row's
pub act_column_lem : (n i : ℕ) (kind : Kind) → Receives n i kind → act_column n kind < columns n
act_column_lem n i (spend draw) r = omega arith
act_column_lem n i (spend tip) r = omega arith
act_column_lem n i (give s j) r = column_below n s j r.0

-- different places of a row have different columns
earned_apart : (s s' : Side) → same_side s' s ≡ false → earned_column s ≢ earned_column s'
earned_apart draw draw e = absurd (true≢false e)
earned_apart draw tip e = λ q. omega arith
earned_apart tip draw e = λ q. omega arith
earned_apart tip tip e = absurd (true≢false e)

give_earned_apart : (n : ℕ) (s s' : Side) (j : ℕ) → column n s j ≢ earned_column s'
give_earned_apart n draw draw j = λ q. omega arith
give_earned_apart n draw tip j = λ q. omega arith
give_earned_apart n tip draw j = λ q. omega arith
give_earned_apart n tip tip j = λ q. omega arith

give_apart : (n : ℕ) (s s' : Side) (j j' : ℕ) → j < n → j' < n → (same_side s' s ≡ false) ⊎ (j ≢ j') → column n s j ≢ column n s' j'
give_apart n draw draw j j' l l' h = λ q. ⊎_elim (λ e. true≢false e) (λ d. d (omega arith)) h
give_apart n draw tip j j' l l' h = λ q. omega arith
give_apart n tip draw j j' l l' h = λ q. omega arith
give_apart n tip tip j j' l l' h = λ q. ⊎_elim (λ e. true≢false e) (λ d. d (omega arith)) h

cond_is : (b : Bool) (y u x : ℕ) → (b ≡ true → y ≡ u) → (b ≡ false → y ≡ x) → y ≡ cond b u x
cond_is true y u x h g = h refl
cond_is false y u x h g = g refl

-- an act of desk i puts its tally, with t more, into one cell of pile k
module _ (b : List ℕ) (i t k : ℕ) (i<n : i < desks b) where
  abbrev tally_put : Kind → List ℕ
  tally_put kind = put_cell b k (suc i) (act_column (desks b) kind) (tally (pile_of b k) i kind + t)

  abbrev PutsTally : Kind → Type 0
  PutsTally kind = Puts b k (suc i) (act_column (desks b) kind) (tally (pile_of b k) i kind + t)

  -- the pile acted on, as the bytes then have it
  acted_agree : (kind : Kind) → Receives (desks b) i kind → PutsTally kind
      → Agree (desks b) (body_view (desks b) (tally_put kind) (body_at (head_of b) k)) (acted (pile_of b k) i kind t)
  unfolding acted pile_of
  acted_agree (spend s) r h =
      record {
        floor = put_beside _ _ _ _ _ h 0 0 (omega arith) (inl (λ q. omega arith));
        top = put_beside _ _ _ _ _ h 0 1 (omega arith) (inl (λ q. omega arith));
        share = λ s' j l. put_beside _ _ _ _ _ h 0 (column (desks b) s' j) (column_below (desks b) s' j l) (inl (λ q. omega arith));
        earned = λ s' i' l. cond_is (same_side s' (other s) and eqb i' i) _ _ _
            (λ e. let at = here s' (other s) i' i e in rw (at.0, at.1) (put_cell_lem _ _ _ _ _ h))
            (λ e. put_beside _ _ _ _ _ h (suc i') (earned_column s') (earned_below (desks b) s')
            (⊎_elim (λ d. inr (earned_apart (other s) s' d)) (λ d. inl (λ q. eqb-false i' i d (sym (suc_inj q)))) (and_fails _ _ e)));
        give = λ s' i' j l m. put_beside _ _ _ _ _ h (suc i') (column (desks b) s' j) (column_below (desks b) s' j m)
            (inr (λ q. give_earned_apart (desks b) s' (other s) j (sym q)));
      }
  acted_agree (give s j) r h =
      record {
        floor = put_beside _ _ _ _ _ h 0 0 (omega arith) (inl (λ q. omega arith));
        top = put_beside _ _ _ _ _ h 0 1 (omega arith) (inl (λ q. omega arith));
        share = λ s' j' l. put_beside _ _ _ _ _ h 0 (column (desks b) s' j') (column_below (desks b) s' j' l) (inl (λ q. omega arith));
        earned = λ s' i' l. put_beside _ _ _ _ _ h (suc i') (earned_column s') (earned_below (desks b) s')
            (inr (give_earned_apart (desks b) s s' j));
        give = λ s' i' j' l m. cond_is (same_side s' s and eqb i' i and eqb j' j) _ _ _
            (λ e. let at = there s' s i' i j' j e in rw (at.0, at.1, at.2) (put_cell_lem _ _ _ _ _ h))
            (λ e. put_beside _ _ _ _ _ h (suc i') (column (desks b) s' j') (column_below (desks b) s' j' m)
            (⊎_elim (λ d. inr (give_apart (desks b) s s' j j' r.0 m (inl d)))
            (⊎_elim (λ d. inl (λ q. eqb-false i' i d (sym (suc_inj q))))
            (λ d. inr (give_apart (desks b) s s' j j' r.0 m (inr (λ q. eqb-false j' j d (sym q))))))
            (⊎_map (λ d. d) (and_fails _ _) (and_fails _ _ e))));
      }

  -- the other piles
  others_agree : (kind : Kind) → PutsTally kind → (k' : ℕ) → k ≢ k'
      → Agree (desks b) (body_view (desks b) (tally_put kind) (body_at (head_of b) k')) (pile_of b k')
  unfolding pile_of
  others_agree kind h k' d =
      record {
        floor = put_pile _ _ _ _ _ h k' 0 0 (omega arith) (omega arith) d;
        top = put_pile _ _ _ _ _ h k' 0 1 (omega arith) (omega arith) d;
        share = λ s j l. put_pile _ _ _ _ _ h k' 0 (column (desks b) s j) (omega arith) (column_below (desks b) s j l) d;
        earned = λ s j l. put_pile _ _ _ _ _ h k' (suc j) (earned_column s) (suc-le-suc l) (earned_below (desks b) s) d;
        give = λ s j m l l'. put_pile _ _ _ _ _ h k' (suc j) (column (desks b) s m) (suc-le-suc l) (column_below (desks b) s m l') d;
      }

module _ (i : ℕ) (a : Act) (b : List ℕ) (o : Octets b) (accepted : act_answer i a b ≡ 0) where
  abbrev pub piles_after : ℕ → Pile
  piles_after = acted_at (pile_of b) (place b a.pile) i a.kind a.amount

  puts : PutsTally b i a.amount (place b a.pile) (act_desk i a b accepted) a.kind
  puts =
      record {
        octets = o;
        book = book_facts b (act_readable i a b accepted);
        pile_in_lem = act_pile i a b accepted;
        row_in = suc-le-suc (act_desk i a b accepted);
        column_in = act_column_lem (desks b) i a.kind (act_allowed i a b accepted).receives;
        fits = omega (arith, (act_allowed i a b accepted).room);
      }

  agree_after : (k : ℕ) → k < piles b
      → Agree (desks b)
      (body_view (desks b) (tally_put b i a.amount (place b a.pile) (act_desk i a b accepted) a.kind) (body_at (head_of b) k))
      (piles_after k)
  agree_after k l = go (eqb k (place b a.pile)) refl
    where
      go : (test : Bool) → eqb k (place b a.pile) ≡ test
          → Agree (desks b)
          (body_view (desks b) (tally_put b i a.amount (place b a.pile) (act_desk i a b accepted) a.kind) (body_at (head_of b) k))
          (cond test (acted (pile_of b k) i a.kind a.amount) (pile_of b k))
      go true e =
          rw (eqb-true k (place b a.pile) e)
          (acted_agree b i a.amount (place b a.pile) (act_desk i a b accepted) a.kind (act_allowed i a b accepted).receives puts)
      go false e =
          others_agree b i a.amount (place b a.pile) (act_desk i a b accepted) a.kind puts k (λ q. eqb-false _ _ e (sym q))

  -- the book after it, and that its piles are lawful
  pub after_act_lem : after_act i a b ≡ book_bytes (desks b) (piles b) (pile_number b) piles_after
  unfolding after_act tally_at
  after_act_lem = when_accepted _ _ _ accepted ∙ put_written _ _ _ _ _ puts piles_after agree_after

  pub lawful_after : (k : ℕ) → k < piles b → PileFacts (desks b) (piles_after k)
  lawful_after k l =
      acted_at_facts (desks b) (pile_of b) (place b a.pile) i a.kind a.amount (act_desk i a b accepted) (act_allowed i a b accepted) k
      (facts (desks b) (pile_of b k) ((book_facts b (act_readable i a b accepted)).bodies k l))

-- an accepted act's tally stands within the book
pub act_within : (i : ℕ) (a : Act) (b : List ℕ) → act_answer i a b ≡ 0 → tally_at i a b + 4 ≤ length b
unfolding tally_at
act_within i a b accepted =
    omega (
      arith,
      (book_facts b (act_readable i a b accepted)).sized,
      body_within (head_of b) (place b a.pile) (act_pile i a b accepted),
      cell_fits (desks b) (suc i) _ (suc-le-suc (act_desk i a b accepted)) (act_column_lem (desks b) i a.kind (act_allowed i a b accepted).receives),
    )
