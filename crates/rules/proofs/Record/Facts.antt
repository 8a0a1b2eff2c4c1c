-- A record passes its own check only where these plain facts hold of it.
-- Assumes nothing.
use Prim.Native.Nat.{◌≤◌}
use mathlib.Core.Path.{◌≡◌, ap}
use mathlib.Core.Bool.{true, not}
use Rattle.rules.specs.Pile.{lawful, pile_answer}
use Rattle.rules.specs.Layout.{desk_limit}
use Rattle.rules.specs.Record.{Record, record_view, unused_shares, unused_places, record_answer}
use Rattle.rules.proofs.Loops.Logic.{in_range, and_left, and_right}
use Rattle.rules.proofs.Loops.Refusals.{when_not_done, or_else_first, or_else_rest, not_met, none_met}
use Rattle.rules.proofs.Pile.Facts.{PileFacts, facts}

pub record RecordFacts (r : Record) : Type 0 where
  pub desks_least : 1 ≤ r.n
  pub desks_most : r.n ≤ desk_limit
  pub pile : PileFacts r.n (record_view r)
  pub shares_unused : unused_shares r.n (record_view r) ≡ true
  pub places_unused : unused_places r.n (record_view r) ≡ true

pub record_facts : (r : Record) → record_answer r ≡ 0 → RecordFacts r
unfolding record_answer pile_answer
record_facts r e =
    let rest = or_else_rest _ _ e in
    let range = in_range _ _ _ (when_not_done _ _ (or_else_first _ _ e)) in
    let opening = when_not_done _ _ (or_else_first _ _ rest) in
    let tallies = when_not_done _ _ (or_else_first _ _ (or_else_rest _ _ rest)) in
    let covered : lawful r.n (record_view r) ≡ true = when_not_done _ _ (or_else_rest _ _ (or_else_rest _ _ rest)) in
    record {
      desks_least = range.0;
      desks_most = range.1;
      pile = facts r.n (record_view r)
          (none_met (not_met 5 (ap not (and_left _ _ opening))) (none_met (not_met 6 (ap not (and_left _ _ tallies))) (not_met 7 (ap not covered))));
      shares_unused = and_right _ _ opening;
      places_unused = and_right _ _ tallies;
    }
