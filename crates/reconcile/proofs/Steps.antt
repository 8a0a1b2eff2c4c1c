-- A step of the walk over two lists of bytes: as one of the lists has it, and as both do.
-- Assumes nothing.
use Prim.Native.Nat.{ℕ, ◌+◌, ◌/◌, ◌<◌}
use native.Mathlib.Decide.{dec_lt}
use native.Mathlib.Omega.{arith}
use mathlib.Core.Path.{◌≡◌, ap, ap₂, sym, ◌∙◌}
use mathlib.Core.Bool.{Bool, true, false, cond, not}
use mathlib.Core.Logic.{by_cases}
use mathlib.Core.List.{List}
use lib.ListN.{length}
use Rattle.ticket.specs.declared.Ticket.{Ticket}
use Rattle.ticket.specs.Tickets.{ticket_length}
use Rattle.reconcile.specs.declared.cursor.Cursor.{Cursor}
use Rattle.reconcile.specs.declared.walk.Walk.{Walk}
use Rattle.reconcile.specs.Counts.{ticket_at, same_ticket}
use Rattle.reconcile.specs.Lists.{tickets_of}
use Rattle.reconcile.specs.Inner.{as_place, place_at, next_number, Standing, Sound, ListWalked, Walked}
use Rattle.reconcile.proofs.SameTicket.{same_exchanged}
use Rattle.reconcile.proofs.Passing.{pass_own, pass_other, pass_both}
use Rattle.reconcile.proofs.Readings.{tickets_length, ticket_read, number_read, sound_listed}
use Rattle.reconcile.proofs.Cursors.{head_is, inside, head_most, head_below, head_end, at_a_ticket, moved}

abbrev pub as_walk : Cursor → Cursor → ℕ → ℕ → ℕ → ℕ → Walk
as_walk bridge desk alike differing onlyBridge onlyDesk =
    record { bridge = bridge; desk = desk; counts = record { alike = alike; differing = differing; only_bridge = onlyBridge; only_desk = onlyDesk } }

-- of a list with nothing wrong in it the head is the next ticket
module _ {b : List ℕ} {c : Cursor} (s : Standing b c) (sound : Sound b) where
  head_number : c.head.number ≡ next_number (tickets_of b) (c.at / ticket_length)
  head_number = ap (λ (t : Ticket). t.number) (head_is s) ∙ number_read b sound.tickets_right _

  head_ticket : c.at < length b → c.head ≡ ticket_at (tickets_of b) (c.at / ticket_length)
  head_ticket less = head_is s ∙ ticket_read b sound.tickets_right _ (inside s less)

  head_inside : c.at < length b → c.at / ticket_length < length (tickets_of b)
  head_inside less = omega (arith, inside s less, tickets_length b)

-- a step, as one of the lists has it
module _ {own other : List ℕ} {c d : Cursor} {alike differing only only' : ℕ}
    (mine : ListWalked own other c d alike differing only) (theirs : ListWalked other own d c alike differing only') where
  next_less : c.head.number < d.head.number → Sound own → Sound other
      → next_number (tickets_of own) (c.at / ticket_length) < next_number (tickets_of other) (d.at / ticket_length)
  next_less less s s' = omega (arith, head_number mine.standing s, head_number theirs.standing s')

  -- its own number comes next, and is passed
  module _ (less : c.head.number < d.head.number) where
    pub own_inside : c.at < length own
    own_inside = at_a_ticket mine.standing less (head_most theirs.standing)

    pub own_passed : {c' : Cursor} → as_place c' ≡ place_at own (c.at / ticket_length + 1) → ListWalked own other c' d alike differing (only + 1)
    own_passed e =
        let (place, _, standing') = moved mine.standing own_inside e in
        record {
          standing = standing';
          adds_up = omega (arith, place, mine.adds_up);
          passed = λ s s'. rw place (pass_own (sound_listed own s) (sound_listed other s') (mine.passed s s') (theirs.passed s' s).below (next_less less s s'));
        }

    -- and so the other list has it
    pub seen_passed : {c' : Cursor} → as_place c' ≡ place_at own (c.at / ticket_length + 1) → ListWalked other own d c' alike differing only'
    seen_passed {c'} e =
        let (place, _, _) = moved mine.standing {c' = c'} own_inside e in
        record {
          standing = theirs.standing;
          adds_up = theirs.adds_up;
          passed = λ s' s. rw place (pass_other (sound_listed other s') (sound_listed own s) (theirs.passed s' s) (next_less less s s'));
        }

  -- both have the number that comes next
  module _ (e : c.head.number ≡ d.head.number) (more : c.at + d.at < length own + length other) where
    pub both_inside : c.at < length own
    both_inside =
        by_cases (dec_lt c.at (length own)) (λ l. l)
        (λ past. absurd (omega (arith, head_end mine.standing (omega arith), head_below theirs.standing (omega arith))))

  both_passed : c.at < length own → d.at < length other → c.head.number ≡ d.head.number
      → (same : Bool) → same_ticket c.head d.head ≡ same
      → {c' d' : Cursor} → as_place c' ≡ place_at own (c.at / ticket_length + 1) → as_place d' ≡ place_at other (d.at / ticket_length + 1)
      → ListWalked own other c' d' (cond same (alike + 1) alike) (cond (not same) (differing + 1) differing) only
  both_passed inside-own inside-other e same told {d' = d'} e₁ e₂ =
      let (place, _, standing') = moved mine.standing inside-own e₁ in
      let (place', _, _) = moved theirs.standing {c' = d'} inside-other e₂ in
      record {
        standing = standing';
        adds_up = one_of_two same ∙ omega (arith, place, mine.adds_up);
        passed = λ s s'. rw place (rw place' (pass_both (sound_listed own s) (sound_listed other s') (mine.passed s s')
            (head_inside mine.standing s inside-own) (head_inside theirs.standing s' inside-other)
            (sym (head_number mine.standing s) ∙ e ∙ head_number theirs.standing s')
            same (ap₂ same_ticket (sym (head_ticket mine.standing s inside-own)) (sym (head_ticket theirs.standing s' inside-other)) ∙ told)));
      }
    where
      one_of_two : (same : Bool) → cond same (alike + 1) alike + cond (not same) (differing + 1) differing + only ≡ alike + differing + only + 1
      one_of_two true = omega arith
      one_of_two false = omega arith

-- and as both have it
pub past_both : {b d : List ℕ} {w : Walk} → Walked b d w → w.bridge.at < length b → w.desk.at < length d → w.bridge.head.number ≡ w.desk.head.number
    → (same : Bool) → same_ticket w.bridge.head w.desk.head ≡ same
    → {c' d' : Cursor} → as_place c' ≡ place_at b (w.bridge.at / ticket_length + 1) → as_place d' ≡ place_at d (w.desk.at / ticket_length + 1)
    → Walked b d (as_walk c' d' (cond same (w.counts.alike + 1) w.counts.alike) (cond (not same) (w.counts.differing + 1) w.counts.differing) w.counts.only_bridge w.counts.only_desk)
    × (w.bridge.at + w.desk.at < c'.at + d'.at)
past_both p inside-bridge inside-desk e same told {c' = c'} {d' = d'} e₁ e₂ =
    let mine = p.of_bridge in
    let theirs = p.of_desk in (
      record {
        of_bridge = both_passed mine theirs inside-bridge inside-desk e same told e₁ e₂;
        of_desk = both_passed theirs mine inside-desk inside-bridge (sym e) same (same_exchanged _ _ ∙ told) e₂ e₁;
      },
      omega (arith, (moved mine.standing {c' = c'} inside-bridge e₁).1, (moved theirs.standing {c' = d'} inside-desk e₂).1),
    )
