-- What the laws say of two lists and of what is handed back, so that a weaker law would be noticed: whatever the other list is, no count is over the list's length; what each
-- list lacks of the other differs as their lengths do; with the lists exchanged nothing else changes; a list that is accepted against itself is all alike.
-- Assumes nothing.
use Prim.Native.Nat.{ℕ, ◌+◌, ◌≤◌}
use native.Mathlib.Omega.{arith}
use mathlib.Core.Path.{◌≡◌, ap, ◌∙◌}
use mathlib.Core.List.{List}
use lib.ListN.{length}
use Rattle.rules.proofs.Loops.Refusals.{when_accepted}
use Rattle.ticket.specs.declared.Ticket.{Ticket}
use Rattle.reconcile.specs.Counts.{alike_in_both, differing_in_both, only_in_first}
use Rattle.reconcile.specs.Lists.{Reconciliation, tickets_in, tickets_of, reconcile_answer, reconciled, counted, reconciliation}
use Rattle.reconcile.specs.Laws.{RisingList}
use Rattle.reconcile.proofs.Laws.{first_adds_up, second_adds_up, against_itself, lists_exchanged}
use Rattle.reconcile.proofs.Readings.{tickets_length, sound_listed}
use Rattle.reconcile.proofs.Reconciled.{sound_both, counts_add_up}

-- one list rises and the other is any list, first or second
pub at_most_its_length : (l m : List Ticket) → RisingList l → (alike_in_both l m + differing_in_both l m ≤ length l) × (alike_in_both m l + differing_in_both m l ≤ length l)
at_most_its_length l m listed = (omega (arith, first_adds_up l m listed), omega (arith, second_adds_up m l listed))

-- so more tickets at the desk than at the bridge are as many more that only the desk has
pub lengths_told : (bridge desk : List ℕ) → reconcile_answer bridge desk ≡ 0 → let r = reconciliation bridge desk in
    r.only_bridge + tickets_in desk ≡ r.only_desk + tickets_in bridge
lengths_told bridge desk e = let (at_bridge, at_desk) = counts_add_up bridge desk e in omega (arith, at_bridge, at_desk)

-- tickets are alike, or differ, whichever list is the bridge's
pub either_way_round : (l m : List Ticket)
    → (alike_in_both m l ≡ alike_in_both l m) × (differing_in_both m l ≡ differing_in_both l m) × (only_in_first m l ≡ (counted l m).only_desk)
unfolding counted
either_way_round l m =
    let e = lists_exchanged l m in
    (ap (λ (r : Reconciliation). r.alike) e, ap (λ (r : Reconciliation). r.differing) e, ap (λ (r : Reconciliation). r.only_bridge) e)

-- a list that is accepted against itself
pub all_alike : (b : List ℕ) → reconcile_answer b b ≡ 0 → reconciliation b b ≡ reconciled 0 (tickets_in b) 0 0 0
unfolding reconciliation
all_alike b e =
    when_accepted _ (counted (tickets_of b) (tickets_of b)) _ e
    ∙ against_itself (tickets_of b) (sound_listed b (sound_both b b e).0)
    ∙ ap (λ (n : ℕ). reconciled 0 n 0 0 0) (tickets_length b)
