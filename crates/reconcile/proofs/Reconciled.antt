-- The walk's start and its end: what is wrong with the two lists, and the four counts.
-- Assumes nothing.
use Prim.Native.Nat.{ℕ, ◌*◌, ◌/◌, ◌%◌, ◌≤◌}
use native.Mathlib.Nat.{not-suc-le-zero}
use native.Mathlib.Decide.{ℕ_discrete}
use native.Mathlib.Omega.{arith}
use mathlib.Core.Path.{◌≡◌, refl, ap, ap₂, sym, ◌∙◌}
use mathlib.Core.Bool.{Bool, true, false, not}
use mathlib.Core.Logic.{by_cases}
use mathlib.Core.List.{List}
use lib.ListN.{length}
use lib.Dec.{ltb}
use borrow.Author.Tests.{not-true, not-false, eqb-true, ltb-false}
use Rattle.rules.specs.Loops.{sum, count}
use Rattle.rules.specs.Refusals.{◌when◌, ◌or_else◌}
use Rattle.rules.proofs.Loops.Logic.{or_left, or_right, or_neither}
use Rattle.rules.proofs.Loops.Refusals.{or_else_first, or_else_rest, or_else_passes, or_else_under, not_met, when_not_done, when_accepted, when_refused}
use Rattle.std.specs.Prelude.{Result, Ok, Err}
use Rattle.std.specs.Result.{IsErrAnd}
use Rattle.refusal.specs.declared.Refusal.{Refusal}
use Rattle.refusal.specs.Answers.{number_of, answered}
use Rattle.refusal.proofs.Refused.{number_is_not_0}
use Rattle.reconcile.specs.declared.Counts.{Counts}
use Rattle.ticket.specs.Tickets.{ticket_length}
use Rattle.reconcile.specs.declared.cursor.Cursor.{Cursor}
use Rattle.reconcile.specs.declared.walk.Walk.{Walk}
use Rattle.reconcile.specs.Counts.{numbers_rise}
use Rattle.reconcile.specs.Lists.{Reconciliation, as_reconciliation, list_limit, tickets_in, tickets_of, length_wrong, tickets_answer, reconcile_answer, reconciled, counted, reconciliation}
use Rattle.reconcile.specs.Laws.{CountsAddUp}
use Rattle.reconcile.specs.Inner.{Place, as_place, place_at, Standing, Sound, ListWalked, Walked}
use Rattle.reconcile.proofs.Laws.{alike_along, differing_along, only_along, first_adds_up, second_adds_up}
use Rattle.reconcile.proofs.Readings.{tickets_length, all_asked, all_rise, sound_listed}
use Rattle.reconcile.proofs.Cursors.{list_is}
use Rattle.reconcile.proofs.Steps.{as_walk}

pub sized : (b : List ℕ) → length_wrong b ≡ false → (length b % ticket_length ≡ 0) × (length b ≤ list_limit * ticket_length)
unfolding length_wrong
sized b e = (eqb-true _ _ (not-false _ (or_left _ _ e)), ltb-false _ _ (or_right _ _ e))

-- at the start nothing is passed
side_begun : {own other : List ℕ} {c d : Cursor} → length_wrong own ≡ false → as_place c ≡ place_at own 0 → ListWalked own other c d 0 0 0
unfolding place_at count sum
side_begun {own} {c = c} e is-start =
    let at_first : c.at ≡ 0 = ap (λ (p : Place). p.at) is-start in
    let place : c.at / ticket_length ≡ 0 = omega (arith, at_first) in
    record {
      standing =
          record { whole = (sized own e).0; short = (sized own e).1; within = omega (arith, at_first); is_at = is-start ∙ ap (place_at own) (sym place) };
      adds_up = sym place;
      passed = λ s s'. rw place (record { below = λ i l. absurd (not-suc-le-zero l); alike_is = refl; differing_is = refl; only_is = refl });
    }

pub begun : {b d : List ℕ} {at_bridge at_desk : Cursor} → length_wrong b ≡ false → length_wrong d ≡ false
    → as_place at_bridge ≡ place_at b 0 → as_place at_desk ≡ place_at d 0 → Walked b d (as_walk at_bridge at_desk 0 0 0 0)
begun e e' is-start is-start' = record { of_bridge = side_begun e is-start; of_desk = side_begun e' is-start' }

-- the cursors carry the lists along
beside : {b b' d d' : List ℕ} {w : Walk} → b' ≡ b → d' ≡ d → Walked b d w → Walked b' d' w
beside e e' p = rw e (rw e' p)

pub carried : {b d : List ℕ} {w : Walk} → Walked b d w → Walked w.bridge.list.now w.desk.list.now w
carried p = beside (list_is p.of_bridge.standing) (list_is p.of_desk.standing) p

pub carried_on : {b d : List ℕ} {w w' : Walk} → Walked b d w → Walked w.bridge.list.now w.desk.list.now w' → Walked b d w'
carried_on p = beside (sym (list_is p.of_bridge.standing)) (sym (list_is p.of_desk.standing))

-- a list's end is its cursor's
pub ended : {b : List ℕ} {c : Cursor} → Standing b c → true ≡ not (ltb c.at (length c.list.now)) → length b ≤ c.at
ended s e = omega (arith, ap length (list_is s), ltb-false _ _ (not-true _ (sym e)))

-- at the end a cursor has the whole list's refusal, and whether it rises
module _ {b : List ℕ} {c : Cursor} (s : Standing b c) (end : length b ≤ c.at) where
  last_place : c.at / ticket_length ≡ tickets_in b
  last_place = omega (arith, s.within, end)

  whole_list : c.at / ticket_length ≡ length (tickets_of b)
  whole_list = last_place ∙ sym (tickets_length b)

  end_answer : answered c.answer ≡ tickets_answer b
  unfolding place_at
  end_answer = ap (λ (p : Place). p.answer) s.is_at ∙ ap (λ (k : ℕ). (place_at b k).answer) last_place ∙ all_asked b

  end_rises : tickets_answer b ≡ 0 → c.rises ≡ numbers_rise (tickets_of b)
  unfolding place_at
  end_rises right = ap (λ (p : Place). p.rises) s.is_at ∙ ap (λ (k : ℕ). (place_at b k).rises) last_place ∙ all_rise b right

-- an accepted pair of lists has nothing wrong in it
pub sound_both : (b d : List ℕ) → reconcile_answer b d ≡ 0 → Sound b × Sound d
unfolding reconcile_answer
sound_both b d e =
    let own = or_else_rest _ _ e in
    let others = or_else_rest _ _ own in
    let order = or_else_rest _ _ others in (
      record { tickets_right = or_else_first _ _ own; rises = when_not_done 35 _ (or_else_first _ _ order) },
      record { tickets_right = or_else_first _ _ others; rises = when_not_done 36 _ (or_else_rest _ _ order) },
    )

module _ {b d : List ℕ} {w : Walk} (p : Walked b d w) (end-bridge : length b ≤ w.bridge.at) (end-desk : length d ≤ w.desk.at) where
  pub judged : length_wrong b ≡ false → length_wrong d ≡ false
      → answered w.bridge.answer or_else answered w.desk.answer or_else 36 when not w.bridge.rises or_else 37 when not w.desk.rises ≡ reconcile_answer b d
  unfolding reconcile_answer
  judged e e' =
      let mine = p.of_bridge.standing in
      let theirs = p.of_desk.standing in
      ap₂ (λ (x y : ℕ). x or_else y or_else 36 when not w.bridge.rises or_else 37 when not w.desk.rises) (end_answer mine end-bridge) (end_answer theirs end-desk)
      ∙ or_else_under (tickets_answer b) (λ right. or_else_under (tickets_answer d) (λ right'.
      ap₂ (λ (x y : Bool). 36 when not x or_else 37 when not y) (end_rises mine end-bridge right) (end_rises theirs end-desk right')))
      ∙ sym (or_else_passes (not_met 3 (or_neither e e')) _)

  pub counts_right : reconcile_answer b d ≡ 0 → reconciled 0 w.counts.alike w.counts.differing w.counts.only_bridge w.counts.only_desk ≡ counted (tickets_of b) (tickets_of d)
  unfolding counted
  counts_right e =
      let (sound, sound') = sound_both b d e in
      let mine = rw (whole_list p.of_bridge.standing end-bridge) at (p.of_bridge.passed sound sound') in
      let theirs = rw (whole_list p.of_desk.standing end-desk) at (p.of_desk.passed sound' sound) in
      λ i.
      reconciled 0 ((mine.alike_is ∙ sym (alike_along (sound_listed b sound) _)) i) ((mine.differing_is ∙ sym (differing_along (sound_listed b sound) _)) i)
      ((mine.only_is ∙ sym (only_along (sound_listed b sound) _)) i) ((theirs.only_is ∙ sym (only_along (sound_listed d sound') _)) i)

-- what is handed back
module _ (b d : List ℕ) where
  pub handed_refused : (refusal : Refusal) → number_of refusal ≡ reconcile_answer b d → reconciled (number_of refusal) 0 0 0 0 ≡ reconciliation b d
  unfolding reconciliation
  handed_refused refusal e = ap (λ (a : ℕ). reconciled a 0 0 0 0) e ∙ sym (when_refused _ _ _ (λ z. number_is_not_0 refusal (e ∙ z)))

  pub refusal_handed_on : (r : Result Counts Refusal) (refusal : Refusal) → IsErrAnd r (λ e. e ≡ refusal) → number_of refusal ≡ reconcile_answer b d
      → as_reconciliation r ≡ reconciliation b d
  refusal_handed_on (Ok counts) refusal h e = absurd h
  refusal_handed_on (Err other) refusal h e = handed_refused other (ap number_of h ∙ e)

  pub handed_done : 0 ≡ reconcile_answer b d → counted (tickets_of b) (tickets_of d) ≡ reconciliation b d
  unfolding reconciliation
  handed_done accepted = sym (when_accepted _ _ _ (sym accepted))

pub answer_told : (b d : List ℕ) → (reconciliation b d).answer ≡ reconcile_answer b d
unfolding reconciliation counted
answer_told b d =
    by_cases (ℕ_discrete (reconcile_answer b d) 0) (λ e. ap (λ (r : Reconciliation). r.answer) (when_accepted _ _ _ e) ∙ sym e)
    (λ refused. ap (λ (r : Reconciliation). r.answer) (when_refused _ _ _ refused))

-- so the laws of the counts are laws of what is handed back: each list's tickets are counted once
pub counts_add_up : CountsAddUp
unfolding reconciliation counted
counts_add_up b d e =
    let (sound, sound') = sound_both b d e in
    rw (when_accepted _ (counted (tickets_of b) (tickets_of d)) _ e)
    (first_adds_up _ _ (sound_listed b sound) ∙ tickets_length b, second_adds_up _ _ (sound_listed d sound') ∙ tickets_length d)
