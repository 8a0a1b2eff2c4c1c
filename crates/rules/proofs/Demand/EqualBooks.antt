-- Equal books hold the same acts: an act more adds at least 1 to the tally that it names, and a tally can be read from the bytes.
-- Assumes nothing.
use Prim.Native.Nat.{ℕ, ◌+◌, ◌<◌}
use native.Mathlib.Omega.{arith}
use mathlib.Core.Path.{◌≡◌, refl, ap, sym, subst, ◌∙◌}
use mathlib.Core.Logic.{◌⊎◌, ⊎_elim}
use mathlib.Core.Bool.{Bool, true, false, cond}
use mathlib.Core.List.{List, [], ◌∷◌, ◌++◌}
use lib.Dec.{eqb}
use borrow.Author.Tests.{eq-eqb, eqb-true}
use Rattle.history.proofs.Laws.{own, Ends, run, Entered}
use Rattle.rules.specs.Pile.{Side, draw, tip, other, Pile}
use Rattle.rules.specs.Acts.{Kind, spend, give, Act, tally}
use Rattle.rules.specs.Layout.{pile_of, book_bytes}
use Rattle.rules.specs.Book.{act_answer}
use Rattle.rules.specs.Demand.{book}
use Rattle.rules.proofs.Loops.Logic.{and_both}
use Rattle.rules.proofs.Pile.Acted.{same_side, Receives, ActFacts}
use Rattle.rules.proofs.Pile.Agree.{Agree, agree_sym, agree_trans, tally_cong}
use Rattle.rules.proofs.File.LawfulBook.{Frame, written_pile, Lawful}
use Rattle.rules.proofs.Demand.Grown.{at, added, added_append, earns_at, gives_at, grown}
use Rattle.rules.proofs.Demand.Runs.{accepted_facts, runs}

same_itself : (s : Side) → same_side s s ≡ true
same_itself draw = refl
same_itself tip = refl

module _ (n p : ℕ) (numbers : ℕ → ℕ) where
  -- the acts that add to the tally of a kind in pile k
  abbrev naming : ℕ → Kind → Act → Bool
  naming k (spend s) = earns_at p numbers k (other s)
  naming k (give s j) = gives_at p numbers k s j

  names_itself : (q t : ℕ) (kind : Kind) → naming (at p numbers q) kind (record { kind = kind; pile = q; amount = t }) ≡ true
  names_itself q t (spend s) = and_both (eq-eqb (at p numbers q) (at p numbers q) refl) (same_itself (other s))
  names_itself q t (give s j) = and_both (eq-eqb (at p numbers q) (at p numbers q) refl) (and_both (same_itself s) (eq-eqb j j refl))

  tally_grown : (start : ℕ → Pile) (es : List (ℕ × Act)) (k i : ℕ) (kind : Kind)
      → tally (grown p numbers start es k) i kind ≡ tally (start k) i kind + added (naming k kind) (own i es)
  tally_grown start es k i (spend s) = refl
  tally_grown start es k i (give s j) = refl

  -- an act that was accepted of desk i
  pub record Valid (i : ℕ) (a : Act) : Type 0 where
    pub pile : at p numbers a.pile < p
    pub receives : Receives n i a.kind
    pub positive : 0 < a.amount

  abbrev pub AllValid : ℕ → List Act → Type 0
  AllValid i [] = Unit {0}
  AllValid i (a ∷ as') = Valid i a × AllValid i as'

module _ (n p : ℕ) (numbers : ℕ → ℕ) (frame : Frame n p numbers) (start : ℕ → Pile) (lawful : Lawful n p start) where
  valid : (es : List (ℕ × Act)) → Entered book n (book_bytes n p numbers start) es → (i : ℕ) → AllValid n p numbers i (own i es)
  valid [] h i = tt
  valid (x ∷ es) h i = go (eqb x.0 i) refl (valid es h.2 i)
    where
      allowed : (x.0 < n) × (at p numbers x.1.pile < p)
          × ActFacts n (grown p numbers start es (at p numbers x.1.pile)) x.0 x.1.kind x.1.amount
      allowed =
          let before = runs n p numbers frame start lawful es h.2 in
          accepted_facts n p numbers frame _ before.1 x.0 x.1
          (subst (λ (b : List ℕ). act_answer x.0 x.1 b ≡ 0) before.0 h.1)

      go : (b : Bool) → eqb x.0 i ≡ b → AllValid n p numbers i (own i es)
          → AllValid n p numbers i (cond b (x.1 ∷ own i es) (own i es))
      go true e rest = (
        record {
          pile = allowed.1;
          receives = subst (λ (i : ℕ). Receives n i x.1.kind) (eqb-true x.0 i e) allowed.2.receives;
          positive = allowed.2.positive;
        },
        rest,
      )
      go false e rest = rest

  module _ (es fs : List (ℕ × Act)) (agree : (k : ℕ) → k < p → Agree n (grown p numbers start es k) (grown p numbers start fs k))
      (i : ℕ) (i<n : i < n) where
    -- no act more
    no_more : (front : List Act) → front ++ own i es ≡ own i fs → AllValid n p numbers i (own i fs) → own i es ≡ own i fs
    no_more [] e v = e
    no_more (a ∷ front) e v =
        let ok = (subst (AllValid n p numbers i) (sym e) v).0 in
        let k = at p numbers a.pile in
        let N = naming n p numbers k a.kind in
        let same : tally (grown p numbers start es k) i a.kind ≡ tally (grown p numbers start fs k) i a.kind
        = tally_cong n _ _ (agree k ok.pile) i a.kind i<n ok.receives in
        let first : added N (a ∷ (front ++ own i es)) ≡ added N (front ++ own i es) + a.amount
        = ap (λ (b : Bool). cond b (added N (front ++ own i es) + a.amount) (added N (front ++ own i es)))
        (names_itself n p numbers a.pile a.amount a.kind) in
        absurd
        (omega (
          arith,
          ok.positive,
          tally_grown n p numbers start es k i a.kind,
          tally_grown n p numbers start fs k i a.kind,
          ap (added N) e,
          added_append N front (own i es),
        ))

  pub equal : (es fs : List (ℕ × Act)) → Entered book n (book_bytes n p numbers start) es → Entered book n (book_bytes n p numbers start) fs
      → ((e : ℕ) → Ends (own e es) (own e fs) ⊎ Ends (own e fs) (own e es))
      → run book (book_bytes n p numbers start) es ≡ run book (book_bytes n p numbers start) fs
      → (e : ℕ) → e < n → own e es ≡ own e fs
  equal es fs ran ran' either e i i<n =
      let before = runs n p numbers frame start lawful es ran in
      let after = runs n p numbers frame start lawful fs ran' in
      let agree : (k : ℕ) → k < p → Agree n (grown p numbers start es k) (grown p numbers start fs k)
      = λ k l. agree_trans (agree_sym (written_pile n p numbers frame _ before.1 k l))
      (subst (λ (b : List ℕ). Agree n (pile_of b k) (grown p numbers start fs k)) (sym after.0 ∙ sym e ∙ before.0)
      (written_pile n p numbers frame _ after.1 k l)) in
      ⊎_elim (λ h. no_more es fs agree i i<n h.0 h.1 (valid fs ran' i))
      (λ h. sym (no_more fs es (λ k l. agree_sym (agree k l)) i i<n h.0 h.1 (valid es ran i))) (either i)
