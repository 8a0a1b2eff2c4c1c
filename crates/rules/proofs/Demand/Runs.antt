-- After entered acts the book is the one written from the grown piles, which are lawful; so what an act is answered there follows from those piles.
-- Assumes nothing.
use Prim.Native.Nat.{ℕ, ◌<◌}
use native.Mathlib.Nat.{ne_of_lt}
use mathlib.Core.Path.{◌≡◌, refl, ap, subst, ◌∙◌}
use mathlib.Core.Bool.{Bool, true, false, cond, not}
use mathlib.Core.List.{List, [], ◌∷◌}
use lib.Dec.{eqb}
use borrow.Author.Tests.{lt-ltb, ne_eqb}
use Rattle.history.proofs.Laws.{run, Entered}
use Rattle.rules.specs.Pile.{Pile}
use Rattle.rules.specs.Acts.{Kind, Act, act_refusal}
use Rattle.rules.specs.Layout.{pile_of, book_bytes}
use Rattle.rules.specs.Book.{place, absent, desk_answer, act_answer, after_act}
use Rattle.rules.specs.Demand.{book}
use Rattle.rules.proofs.Loops.Refusals.{not_met, none_met}
use Rattle.rules.proofs.Pile.Acted.{acted, ActFacts, act_passes}
use Rattle.rules.proofs.Pile.Agree.{Agree, agree_sym, facts_cong, act_facts_cong, acted_cong}
use Rattle.rules.proofs.File.Written.{open_head, book_cong}
use Rattle.rules.proofs.File.LawfulBook.{written_place, Frame, written_octets, written_number, written_pile, written_readable, Lawful}
use Rattle.rules.proofs.File.AfterAct.{acted_at, act_desk, act_pile, act_allowed, after_act_lem, lawful_after}
use Rattle.rules.proofs.Demand.Grown.{at, grown, grown_none, grown_acted}

acted_at_cong : (n : ℕ) (P Q : ℕ → Pile) (k i : ℕ) (kind : Kind) (t k' : ℕ) → Agree n (P k') (Q k')
    → Agree n (acted_at P k i kind t k') (acted_at Q k i kind t k')
acted_at_cong n P Q k i kind t k' a = go (eqb k' k)
  where
    go : (b : Bool) → Agree n (cond b (acted (P k') i kind t) (P k')) (cond b (acted (Q k') i kind t) (Q k'))
    go true = acted_cong n (P k') (Q k') a i kind t
    go false = a

module _ (n p : ℕ) (numbers : ℕ → ℕ) (frame : Frame n p numbers) where
  module _ (P : ℕ → Pile) (lawful : Lawful n p P) where
    place_of : (number : ℕ) → place (book_bytes n p numbers P) number ≡ at p numbers number
    place_of = written_place n p numbers frame P

    -- an act is accepted exactly where its desk and its pile are there, and the pile allows it
    pub accepted_facts : (i : ℕ) (a : Act) → act_answer i a (book_bytes n p numbers P) ≡ 0
        → (i < n) × (at p numbers a.pile < p) × ActFacts n (P (at p numbers a.pile)) i a.kind a.amount
    unfolding open_head
    accepted_facts i a e =
        let i<n : i < n = act_desk i a (book_bytes n p numbers P) e in
        let k<p : at p numbers a.pile < p = subst (λ (k : ℕ). k < p) (place_of a.pile) (act_pile i a (book_bytes n p numbers P) e) in
        let allowed : ActFacts n (pile_of (book_bytes n p numbers P) (at p numbers a.pile)) i a.kind a.amount
        = subst (λ (k : ℕ). ActFacts n (pile_of (book_bytes n p numbers P) k) i a.kind a.amount) (place_of a.pile) (act_allowed i a (book_bytes n p numbers P) e) in
        (i<n, k<p, act_facts_cong n _ _ (written_pile n p numbers frame P lawful _ k<p) i a.kind a.amount i<n allowed)

    pub facts_accepted : (i : ℕ) (a : Act) → i < n → at p numbers a.pile < p
        → ActFacts n (P (at p numbers a.pile)) i a.kind a.amount → act_answer i a (book_bytes n p numbers P) ≡ 0
    unfolding act_answer desk_answer absent open_head
    facts_accepted i a i<n k<p f =
        none_met
        (none_met (written_readable n p numbers frame P lawful)
        (none_met (not_met 11 (ap not (lt-ltb i n i<n)))
        (not_met 10 (ap (λ (k : ℕ). eqb k p) (place_of a.pile) ∙ ne_eqb _ p (ne_of_lt k<p)))))
        (ap (λ (k : ℕ). act_refusal n (pile_of (book_bytes n p numbers P) k) i a.kind a.amount) (place_of a.pile)
        ∙ act_passes n _ i a.kind a.amount
        (act_facts_cong n _ _ (agree_sym (written_pile n p numbers frame P lawful _ k<p)) i a.kind a.amount i<n f))

    -- the book after it
    pub accepted_book : (i : ℕ) (a : Act) → act_answer i a (book_bytes n p numbers P) ≡ 0
        → (after_act i a (book_bytes n p numbers P) ≡ book_bytes n p numbers (acted_at P (at p numbers a.pile) i a.kind a.amount))
        × Lawful n p (acted_at P (at p numbers a.pile) i a.kind a.amount)
    unfolding open_head
    accepted_book i a e =
        let k = at p numbers a.pile in
        let agree : (k' : ℕ) → k' < p
        → Agree n (acted_at (pile_of (book_bytes n p numbers P)) (place (book_bytes n p numbers P) a.pile) i a.kind a.amount k') (acted_at P k i a.kind a.amount k')
        = λ k' l. rw (place_of a.pile) (acted_at_cong n (pile_of (book_bytes n p numbers P)) P k i a.kind a.amount k' (written_pile n p numbers frame P lawful k' l)) in (
          after_act_lem i a (book_bytes n p numbers P) (written_octets n p numbers frame P) e
              ∙ book_cong n p _ numbers _ _ (written_number n p numbers frame P) agree,
          λ k' l. facts_cong n _ _ (agree k' l) (lawful_after i a (book_bytes n p numbers P) (written_octets n p numbers frame P) e k' l),
        )

  -- the run of a list of entered acts, from the book of lawful piles
  module _ (start : ℕ → Pile) (lawful : Lawful n p start) where
    pub runs : (es : List (ℕ × Act)) → Entered book n (book_bytes n p numbers start) es
        → (run book (book_bytes n p numbers start) es ≡ book_bytes n p numbers (grown p numbers start es)) × Lawful n p (grown p numbers start es)
    runs [] h = (
      book_cong n p numbers numbers start _ (λ k l. refl) (λ k l. grown_none p numbers start n k),
      λ k l. facts_cong n _ _ (grown_none p numbers start n k) (lawful k l),
    )
    runs (x ∷ es) h =
        let before = runs es h.2 in
        let after = accepted_book (grown p numbers start es) before.1 x.0 x.1
        (subst (λ (b : List ℕ). act_answer x.0 x.1 b ≡ 0) before.0 h.1) in
        let agree = grown_acted p numbers start n x.0 x.1 es in (
          ap (after_act x.0 x.1) before.0 ∙ after.0 ∙ book_cong n p numbers numbers _ _ (λ k l. refl) (λ k l. agree k),
          λ k l. facts_cong n _ _ (agree k) (after.1 k l),
        )
