-- The account of a body that is not refused: that the body is lawful, and the numbers told of it.
-- Assumes nothing.
use Prim.Native.Nat.{ℕ, ◌≤◌}
use mathlib.Core.Path.{◌≡◌, sym}
use mathlib.Core.List.{List}
use Rattle.rules.specs.Pile.{Pile}
use Rattle.rules.specs.Layout.{desk_limit, body_view}
use Rattle.rules.proofs.Loops.Logic.{in_range}
use Rattle.rules.proofs.Loops.Refusals.{when_not_done, or_else_first, or_else_rest, when_accepted}
use Rattle.rules.proofs.Pile.Facts.{PileFacts, facts}
use Rattle.rules.proofs.Pile.Tonnage.{tonnage_within, rights_most}
use Rattle.audit.specs.Audits.{account_answer, account_number}

module _ (n at : ℕ) (b : List ℕ) where
  module _ (passed : account_answer n at b ≡ 0) where
    pub few_desks : n ≤ desk_limit
    unfolding account_answer
    few_desks = (in_range _ _ _ (when_not_done _ _ (or_else_first _ _ passed))).1

    pub lawful : PileFacts n (body_view n b at)
    unfolding account_answer
    lawful = facts n (body_view n b at) (or_else_rest _ _ (or_else_rest _ _ passed))

    pub number_is : (f : Pile → ℕ) → f (body_view n b at) ≡ account_number f n at b
    unfolding account_number
    number_is f = sym (when_accepted _ _ _ passed)

-- what tells a `grind` how large the numbers of a lawful body are
pub ruleset account_facts = (lawful, tonnage_within, rights_most)
