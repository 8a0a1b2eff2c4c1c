-- All rights of a side can be spent but one desk's: tonne by tonne, as long as another desk has one, and its tally has room.
-- Assumes nothing.
use Prim.Native.Nat.{ℕ, zero, suc, ◌+◌, ◌≤◌, ◌<◌}
use native.Mathlib.Nat.{le_refl, le_step}
use native.Mathlib.Omega.{arith}
use mathlib.Core.Path.{◌≡◌, refl, sym}
use mathlib.Core.Bool.{Bool, true, false, cond}
use mathlib.Core.List.{List, ◌∷◌}
use lib.Dec.{eqb, lit≤, lit<}
use borrow.Author.Tests.{eq-eqb}
use Rattle.history.proofs.Laws.{run, Entered}
use Rattle.history.proofs.Unheard.{Beyond, none, more}
use Rattle.rules.specs.Loops.{◌and◌, sum}
use Rattle.rules.specs.Pile.{Side, draw, tip, other, Pile, rights, tally_limit}
use Rattle.rules.specs.Acts.{Act, spend}
use Rattle.rules.specs.Layout.{book_bytes}
use Rattle.rules.specs.Book.{act_answer}
use Rattle.rules.specs.Demand.{book}
use Rattle.rules.proofs.Loops.Sums.{sum_cong, sum_add, sum_at, another_term}
use Rattle.rules.proofs.Pile.Acted.{same_side, acted, gain, loss, ActFacts, rights_acted}
use Rattle.rules.proofs.Pile.Agree.{Agree, rights_cong}
use Rattle.rules.proofs.File.Rising.{place_of_number}
use Rattle.rules.proofs.File.LawfulBook.{Frame, Lawful}
use Rattle.rules.proofs.Demand.Grown.{at, grown, one_more}
use Rattle.rules.proofs.Demand.Runs.{facts_accepted, runs}

-- spending a tonne of a side takes it from one desk, and earns nobody any of that side
spent_sum : (n e : ℕ) → e < n → (s : Side) → sum n (loss e (spend s) 1 s) ≡ 1
unfolding ◌and◌
spent_sum n e l draw = sum_at n e 1 l
spent_sum n e l tip = sum_at n e 1 l

none_earned : (e : ℕ) (s : Side) (i : ℕ) → gain e (spend s) 1 s i ≡ 0
unfolding ◌and◌
none_earned e draw i = refl
none_earned e tip i = refl

one_at_most : (b : Bool) (x : ℕ) → cond b (x + 1) x ≤ x + 1
one_at_most true x = le_refl (x + 1)
one_at_most false x = omega arith

module _ (n p : ℕ) (numbers : ℕ → ℕ) (frame : Frame n p numbers) (start : ℕ → Pile) (lawful : Lawful n p start) (k : ℕ) (k<p : k < p) (s : Side) where
  -- pile k after entered acts
  abbrev pub pile : List (ℕ × Act) → Pile
  pile es = grown p numbers start es k

  abbrev pub Ran : List (ℕ × Act) → Type 0
  Ran = Entered book n (book_bytes n p numbers start)

  abbrev tonne : Act
  tonne = record { kind = spend s; pile = numbers k; amount = 1 }

  found : at p numbers (numbers k) ≡ k
  found = place_of_number p numbers frame.rises k k<p

  -- a desk with a right spends one tonne of it
  module _ (es : List (ℕ × Act)) (ran : Ran es) (e : ℕ) (e<n : e < n) (enough : 0 < rights n (pile es) s e)
      (room : (pile es).earned (other s) e + 1 ≤ tally_limit) where
    allowed : ActFacts n (pile es) e (spend s) 1
    allowed = record { receives = tt; positive = lit< tt; amount_limit_lem = lit≤ tt; enough = enough; room = room }

    accepted : act_answer e tonne (run book (book_bytes n p numbers start) es) ≡ 0
    accepted =
        let before = runs n p numbers frame start lawful es ran in
        rw before.0 (facts_accepted n p numbers frame _ before.1 e tonne e<n (rw found k<p) (rw found allowed))

    agrees : Agree n (acted (pile es) e (spend s) 1) (pile ((e, tonne) ∷ es))
    agrees = one_more p numbers start n e (numbers k) 1 (spend s) es k true (eq-eqb k _ (sym found))

    right_spent : (i : ℕ) → i < n → rights n (pile ((e, tonne) ∷ es)) s i + loss e (spend s) 1 s i ≡ rights n (pile es) s i
    right_spent i l =
        omega (
          arith,
          rights_cong n _ _ agrees s i l,
          rights_acted n (pile es) e (spend s) 1 e<n ((runs n p numbers frame start lawful es ran).1 k k<p) allowed s i l,
          none_earned e s i,
        )

    all_spent : sum n (rights n (pile ((e, tonne) ∷ es)) s) + 1 ≡ sum n (rights n (pile es) s)
    all_spent =
        omega (arith, sum_cong n right_spent, sum_add n (rights n (pile ((e, tonne) ∷ es)) s) (loss e (spend s) 1 s), spent_sum n e e<n s)

    tally_spent : (i : ℕ) → i < n → (pile ((e, tonne) ∷ es)).earned (other s) i ≤ (pile es).earned (other s) i + 1
    unfolding acted
    tally_spent i l = rw (← agrees.earned (other s) i l) (one_at_most (same_side (other s) (other s) and eqb i e) ((pile es).earned (other s) i))

  -- acts of desks other than d, after which all rights of the side come to y
  pub record Spent (d : ℕ) (es : List (ℕ × Act)) (j y : ℕ) : Type 0 where
    pub acts : List (ℕ × Act)
    pub beyond : Beyond d es acts
    pub ran : Ran acts
    pub left : sum n (rights n (pile acts) s) ≡ y
    pub own_right : rights n (pile acts) s d ≤ rights n (pile es) s d
    pub tallies : (i : ℕ) → i < n → (pile acts).earned (other s) i ≤ (pile es).earned (other s) i + j

  pub spent : (d : ℕ) → d < n → (es : List (ℕ × Act)) → Ran es → (j y : ℕ) → sum n (rights n (pile es) s) ≡ y + j → rights n (pile es) s d ≤ y
      → ((i : ℕ) → i < n → (pile es).earned (other s) i + j ≤ tally_limit) → Spent d es j y
  spent d d<n es ran zero y all own room =
      record { acts = es; beyond = none; ran = ran; left = omega arith; own_right = le_refl _; tallies = λ i l. omega arith }
  spent d d<n es ran (suc j) y all own room =
      let was = spent d d<n es ran j (suc y) (omega arith) (le_step own) (λ i l. omega (arith, room i l)) in
      let fs = was.acts in
      let (e, e<n, other-desk, enough) = another_term n d (rights n (pile fs) s) (omega (arith, was.left, was.own_right)) in
      let has_room : (pile fs).earned (other s) e + 1 ≤ tally_limit = omega (arith, was.tallies e e<n, room e e<n) in
      record {
        acts = (e, tonne) ∷ fs;
        beyond = more {x = (e, tonne)} other-desk was.beyond;
        ran = (e<n, accepted fs was.ran e e<n enough has_room, was.ran);
        left = omega (arith, all_spent fs was.ran e e<n enough has_room, was.left);
        own_right = omega (arith, right_spent fs was.ran e e<n enough has_room d d<n, was.own_right);
        tallies = λ i l. omega (arith, tally_spent fs was.ran e e<n enough has_room i l, was.tallies i l);
      }
