-- An act on a record: where the one tally stands that it adds to, and the lines of the table that answer it.
-- Assumes nothing.
use Prim.Native.Nat.{ℕ, ◌+◌, ◌*◌, ◌≤◌, ◌<◌}
use native.Mathlib.Omega.{arith}
use mathlib.Core.Path.{◌≡◌, refl, ◌∙◌}
use mathlib.Core.Logic.{◌≢◌}
use mathlib.Core.Bool.{false}
use lib.ListN.{get_or}
use lib.Dec.{ltb, eqb}
use borrow.Author.Tests.{ltb-true}
use Rattle.rules.specs.Loops.{◌or◌}
use Rattle.rules.specs.Refusals.{◌when◌, ◌or_else◌}
use Rattle.rules.specs.Pile.{other, rights, tally_limit, amount_limit}
use Rattle.rules.specs.Acts.{Kind, spend, give, side, tally, receiver_wrong, act_refusal}
use Rattle.rules.specs.Layout.{desk_limit, act_column}
use Rattle.rules.specs.Record.{Record, record_view, record_desk_answer, record_act_answer, row_places}
use Rattle.rules.proofs.Record.Facts.{record_facts}
use Rattle.refusal.proofs.Refused.{refusals}
use Rattle.rules.proofs.Loops.Refusals.{or_else_first, or_else_rest, or_else_passes, or_else_stands, when_not_done}
use Rattle.rules.proofs.Pile.Acted.{receiver}
use Rattle.rules.proofs.File.Body.{column_below, earned_below}

-- the tally of an act stands at its column of the desk's row
pub tally_at_lem : (r : Record) (i : ℕ) (kind : Kind) → tally (record_view r) i kind ≡ get_or r.tallies (i * row_places + act_column desk_limit kind) 0
tally_at_lem r i (spend s) = refl
tally_at_lem r i (give s j) = refl

-- and a record's rows have that column, where a give's receiver is right
pub column_there : (n i : ℕ) (kind : Kind) → receiver_wrong n i kind ≡ false → n ≤ desk_limit → act_column desk_limit kind < row_places
column_there n i (spend s) right few = earned_below desk_limit (other s)
column_there n i (give s j) right few = column_below desk_limit s j (omega (arith, (receiver n i (give s j) right).0))

-- a desk whose call is accepted is one of 8
pub desk_there : (r : Record) (i : ℕ) → record_desk_answer i r ≡ 0 → (i < r.n) × (r.n ≤ desk_limit)
unfolding record_desk_answer
desk_there r i e = (ltb-true _ _ (when_not_done 10 _ (or_else_rest _ _ e)), (record_facts r (or_else_first _ _ e)).desks_most)

-- the answer to an act: the desk's own where it is refused, and otherwise 12 to 15, by the tally that stands at the act's place
pub act_own : (r : Record) (i : ℕ) (kind : Kind) (t : ℕ) → record_desk_answer i r ≢ 0 → record_act_answer i kind t r ≡ record_desk_answer i r
unfolding record_act_answer
act_own r i kind t d = or_else_stands _ _ d

pub act_lines : (r : Record) (i : ℕ) (kind : Kind) (t : ℕ) → record_desk_answer i r ≡ 0
    → record_act_answer i kind t r
    ≡ 12 when receiver_wrong r.n i kind or_else 13 when (eqb t 0 or ltb amount_limit t) or_else 14 when ltb (rights r.n (record_view r) (side kind) i) t or_else 15 when ltb tally_limit (get_or r.tallies (i * row_places + act_column desk_limit kind) 0 + t)
unfolding record_act_answer act_refusal
act_lines r i kind t desk = or_else_passes desk _ ∙ rw (tally_at_lem r i kind) refl

-- what tells a `grind` of an act on a record
pub ruleset acts = (refusals, tally_at_lem, column_there, desk_there, act_own, act_lines)
