-- What each desk can be sure of, beside the account of the body that starts at a position: for 8 places the bound of the desk there, those past n being 0.
-- All is 0 where the body is refused.
-- Assumes nothing.
use Rattle.std.specs.Prelude.{ℕ, List, replicate}
use Rattle.rules.specs.Loops.{list}
use Rattle.rules.specs.Refusals.{done}
use Rattle.rules.specs.Pile.{Side}
use Rattle.rules.specs.Layout.{desk_limit, body_view}
use Rattle.rules.specs.Record.{padded}
use Rattle.rules.specs.Bounds.{bound}
use Rattle.audit.specs.Audits.{account_answer}

unfoldable pub account_bounds : Side → ℕ → ℕ → List ℕ → List ℕ
account_bounds s n at b =
    done (account_answer n at b) (list desk_limit (padded n (bound n (body_view n b at) s))) (replicate desk_limit 0)
