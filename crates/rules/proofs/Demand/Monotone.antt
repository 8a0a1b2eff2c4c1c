-- What a desk may do it may still do when the others have acted more: its own row is the same, and what it was given has only grown.
-- Assumes nothing.
use Prim.Native.Nat.{ℕ, ◌+◌, ◌≤◌}
use native.Mathlib.Nat.{le_refl, le_of_eq, add-le-add, le_trans}
use native.Mathlib.Omega.{arith}
use mathlib.Core.Path.{◌≡◌, ap, ap₂, sym, subst}
use mathlib.Core.List.{List}
use Rattle.history.proofs.Laws.{own, Ends, run, Entered}
use Rattle.rules.specs.Pile.{Side, other, Pile, credit, debit, rights, tally_limit}
use Rattle.rules.specs.Acts.{Kind, spend, give, Act, side, tally}
use Rattle.rules.specs.Layout.{book_bytes}
use Rattle.rules.specs.Book.{act_answer}
use Rattle.rules.specs.Demand.{book}
use Rattle.rules.proofs.Loops.Sums.{sum_cong, sum_le}
use Rattle.rules.proofs.Pile.Acted.{ActFacts}
use Rattle.rules.proofs.File.LawfulBook.{Frame, Lawful}
use Rattle.rules.proofs.Demand.Grown.{at, added_ends, grown}
use Rattle.rules.proofs.Demand.Runs.{accepted_facts, facts_accepted, runs}

module _ (n p : ℕ) (numbers : ℕ → ℕ) (start : ℕ → Pile) (es fs : List (ℕ × Act)) (k d : ℕ)
    (grew : (e : ℕ) → Ends (own e es) (own e fs)) (same : own d es ≡ own d fs) where
  abbrev before : Pile
  before = grown p numbers start es k

  abbrev after : Pile
  after = grown p numbers start fs k

  -- the desk's own row
  own_earned : (s : Side) → before.earned s d ≡ after.earned s d
  own_earned s = rw same

  own_give : (s : Side) (j : ℕ) → before.give s d j ≡ after.give s d j
  own_give s j = rw same

  own_tally : (kind : Kind) → tally before d kind ≡ tally after d kind
  own_tally (spend s) = own_earned (other s)
  own_tally (give s j) = own_give s j

  credit_grows : (s : Side) → credit n before s d ≤ credit n after s d
  unfolding credit
  credit_grows s =
      add-le-add (le_of_eq (ap (λ (x : ℕ). (start k).share s d + x) (own_earned s)))
      (sum_le n (λ j l. add-le-add (le_refl ((start k).give s j d)) (added_ends _ _ _ (grew j))))

  debit_same : (s : Side) → debit n before s d ≡ debit n after s d
  unfolding debit
  debit_same s = ap₂ ◌+◌ (sum_cong n (λ j l. own_give s j)) (own_earned (other s))

  pub rights_grow : (s : Side) → rights n before s d ≤ rights n after s d
  unfolding rights
  rights_grow s = omega (arith, credit_grows s, debit_same s)

  allowed_still : (kind : Kind) (t : ℕ) → ActFacts n before d kind t → ActFacts n after d kind t
  allowed_still kind t f =
      record {
        receives = f.receives;
        positive = f.positive;
        amount_limit_lem = f.amount_limit_lem;
        enough = le_trans f.enough (rights_grow (side kind));
        room = subst (λ (x : ℕ). x + t ≤ tally_limit) (own_tally kind) f.room;
      }

module _ (n p : ℕ) (numbers : ℕ → ℕ) (frame : Frame n p numbers) (start : ℕ → Pile) (lawful : Lawful n p start) where
  pub monotone : (d : ℕ) (a : Act) (es fs : List (ℕ × Act)) → Entered book n (book_bytes n p numbers start) es
      → Entered book n (book_bytes n p numbers start) fs → ((e : ℕ) → Ends (own e es) (own e fs)) → own d es ≡ own d fs
      → act_answer d a (run book (book_bytes n p numbers start) es) ≡ 0 → act_answer d a (run book (book_bytes n p numbers start) fs) ≡ 0
  monotone d a es fs ran ran' grew same e =
      let before = runs n p numbers frame start lawful es ran in
      let after = runs n p numbers frame start lawful fs ran' in
      let f = accepted_facts n p numbers frame _ before.1 d a (subst (λ (b : List ℕ). act_answer d a b ≡ 0) before.0 e) in
      subst (λ (b : List ℕ). act_answer d a b ≡ 0) (sym after.0)
      (facts_accepted n p numbers frame _ after.1 d a f.0 f.1
      (allowed_still n p numbers start es fs (at p numbers a.pile) d grew same a.kind a.amount f.2))
