-- `step` passes the smaller of the two numbers that come next, in every list that has it.
use Prim.Native.Nat.{◌<◌}
use native.Mathlib.Omega.{arith}
use mathlib.Core.Path.{◌≡◌, sym, ◌∙◌}
use mathlib.Core.Bool.{true, false}
use lib.ListN.{length}
use Rattle.std.proofs.Common.{Less, Equal, Greater}
use Rattle.std.proofs.lemmas.Cmp.{ranked}
use Rattle.reconcile.proofs.Cursors.{moved}
use Rattle.reconcile.proofs.SameTicket.{derived_same}
use Rattle.reconcile.proofs.Steps.{own_inside, own_passed, seen_passed, both_inside, past_both}
use Rattle.reconcile.proofs.walk.step.Goals as goal
use Rattle.reconcile.proofs.walk.step.Goals.{In-Less, In-Greater, In-Equal}

-- the bridge's number comes next
bridge_first : (c : In-Less) → c.args.walk.bridge.head.number < c.args.walk.desk.head.number
bridge_first c = ranked _ _ Less (c.in-Less.ensures)

pub advance-next-requires : goal.advance-next-requires
advance-next-requires c =
    let p = c.requires.walked_so_far in
    (p.of_bridge.standing, own_inside p.of_bridge p.of_desk (bridge_first (goal.at.advance-next-requires c).In-Less))

pub returns-in-Less : goal.returns-in-Less
returns-in-Less c =
    let p = c.requires.walked_so_far in
    let less = bridge_first (goal.at.returns-in-Less c).In-Less in
    let e = c.advance-next.ensures in
    record {
      walked = record { of_bridge = own_passed p.of_bridge p.of_desk less e; of_desk = seen_passed p.of_bridge p.of_desk less e };
      further = omega (arith, (moved p.of_bridge.standing {c' = c.advance-next.result} (own_inside p.of_bridge p.of_desk less) e).1);
    }

-- the desk's does
desk_first : (c : In-Greater) → c.args.walk.desk.head.number < c.args.walk.bridge.head.number
desk_first c = ranked _ _ Greater (c.in-Greater.ensures)

pub advance-next-requires-in-Greater : goal.advance-next-requires-in-Greater
advance-next-requires-in-Greater c =
    let p = c.requires.walked_so_far in
    (p.of_desk.standing, own_inside p.of_desk p.of_bridge (desk_first (goal.at.advance-next-requires-in-Greater c).In-Greater))

pub returns-in-Greater : goal.returns-in-Greater
returns-in-Greater c =
    let p = c.requires.walked_so_far in
    let less = desk_first (goal.at.returns-in-Greater c).In-Greater in
    let e = c.advance-next-in-Greater.ensures in
    record {
      walked = record { of_bridge = seen_passed p.of_desk p.of_bridge less e; of_desk = own_passed p.of_desk p.of_bridge less e };
      further = omega (arith, (moved p.of_desk.standing {c' = c.advance-next-in-Greater.result} (own_inside p.of_desk p.of_bridge less) e).1);
    }

-- both lists have the number
equal : (c : In-Equal) → c.args.walk.bridge.head.number ≡ c.args.walk.desk.head.number
equal c = ranked _ _ Equal (c.in-Equal.ensures)

at_bridge : (c : In-Equal) → c.args.walk.bridge.at < length c.args.walk.bridge.list.now
at_bridge c = let p = c.requires.walked_so_far in both_inside p.of_bridge p.of_desk (equal c) c.requires.some_left

at_desk : (c : In-Equal) → c.args.walk.desk.at < length c.args.walk.desk.list.now
at_desk c = let p = c.requires.walked_so_far in both_inside p.of_desk p.of_bridge (sym (equal c)) (omega arith)

pub advance-next-requires-in-Equal : goal.advance-next-requires-in-Equal
advance-next-requires-in-Equal c = (c.requires.walked_so_far.of_bridge.standing, at_bridge (goal.at.advance-next-requires-in-Equal c).In-Equal)

pub advance-next-requires-in-Equal-2 : goal.advance-next-requires-in-Equal-2
advance-next-requires-in-Equal-2 c = (c.requires.walked_so_far.of_desk.standing, at_desk (goal.at.advance-next-requires-in-Equal-2 c).In-Equal)

pub returns-then-eq : goal.returns-then-eq
returns-then-eq c =
    let at = (goal.at.returns-then-eq c).In-Equal in
    let both = past_both c.requires.walked_so_far (at_bridge at) (at_desk at) (equal at) true (sym (derived_same _ _) ∙ sym c.if-eq.ensures)
    c.advance-next-in-Equal.ensures c.advance-next-in-Equal-2.ensures in
    record { walked = both.0; further = both.1 }

pub returns-else-eq : goal.returns-else-eq
returns-else-eq c =
    let at = (goal.at.returns-else-eq c).In-Equal in
    let both = past_both c.requires.walked_so_far (at_bridge at) (at_desk at) (equal at) false (sym (derived_same _ _) ∙ sym c.if-eq.ensures)
    c.advance-next-in-Equal.ensures c.advance-next-in-Equal-2.ensures in
    record { walked = both.0; further = both.1 }
