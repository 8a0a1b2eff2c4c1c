-- The test for the same ticket holds of equal tickets, and of no others.
-- Assumes nothing.
use Prim.Native.Nat.{ℕ}
use mathlib.Core.Path.{◌≡◌, refl, ap, sym, subst}
use mathlib.Core.Bool.{Bool, true, false, ◌&&◌}
use lib.Dec.{eqb}
use borrow.Author.Tests.{eqb-true, eq-eqb}
use Rattle.rules.specs.Loops.{◌and◌}
use Rattle.rules.proofs.Loops.Logic.{same, and_left, and_right, and_both}
use Rattle.ticket.specs.declared.Ticket.{Ticket}
use Rattle.ticket.specs.Tickets.{as_ticket}
use Rattle.reconcile.specs.Counts.{same_ticket}

-- the derived test is that test
and_is : (a b : Bool) → a && b ≡ a and b
unfolding ◌and◌
and_is true b = refl
and_is false b = refl

pub derived_same : (t u : Ticket) → eqb t.number u.number && (eqb t.pile u.pile && (eqb t.tonnes u.tonnes && (eqb t.kind u.kind && eqb t.desk u.desk))) ≡ same_ticket t u
unfolding same_ticket
derived_same t u = simp and_is

same_tickets : (t u : Ticket) → same_ticket t u ≡ true → t ≡ u
unfolding same_ticket
same_tickets t u e =
    let from-pile = and_right _ _ e in
    let from-tonnes = and_right _ _ from-pile in
    let from-kind = and_right _ _ from-tonnes in
    let number : t.number ≡ u.number = eqb-true _ _ (and_left _ _ e) in
    let pile : t.pile ≡ u.pile = eqb-true _ _ (and_left _ _ from-pile) in
    let tonnes : t.tonnes ≡ u.tonnes = eqb-true _ _ (and_left _ _ from-tonnes) in
    let kind : t.kind ≡ u.kind = eqb-true _ _ (and_left _ _ from-kind) in
    let desk : t.desk ≡ u.desk = eqb-true _ _ (and_right _ _ from-kind) in
    λ i. as_ticket (number i) (pile i) (tonnes i) (kind i) (desk i)

pub same_number : (t u : Ticket) → same_ticket t u ≡ true → t.number ≡ u.number
same_number t u e = ap (λ (t : Ticket). t.number) (same_tickets t u e)

pub equal_tickets : (t u : Ticket) → t ≡ u → same_ticket t u ≡ true
unfolding same_ticket
equal_tickets t u e =
    subst (λ (u : Ticket). same_ticket t u ≡ true) e
    (and_both (self t.number) (and_both (self t.pile) (and_both (self t.tonnes) (and_both (self t.kind) (self t.desk)))))
  where
    self : (a : ℕ) → eqb a a ≡ true
    self a = eq-eqb a a refl

pub same_exchanged : (t u : Ticket) → same_ticket t u ≡ same_ticket u t
same_exchanged t u = same _ _ (λ e. equal_tickets u t (sym (same_tickets t u e))) (λ e. equal_tickets t u (sym (same_tickets u t e)))
