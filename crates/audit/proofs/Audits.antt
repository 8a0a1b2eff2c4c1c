-- What the shape of bodies tells, and what is answered where a body is refused, and where none is.
-- Assumes nothing.
use Prim.Native.Nat.{ℕ, ◌+◌, ◌*◌, ◌≤◌, ◌<◌}
use native.Mathlib.Omega.{arith}
use mathlib.Core.Path.{◌≡◌, ◌∙◌}
use mathlib.Core.Logic.{◌≢◌}
use mathlib.Core.List.{List}
use lib.ListN.{length}
use borrow.Author.Tests.{le-leb, eq-eqb, eqb-true}
use Rattle.rules.specs.Loops.{◌and◌, between}
use Rattle.rules.specs.Refusals.{◌when◌, ◌or_else◌, first}
use Rattle.rules.specs.Pile.{pile_answer}
use Rattle.rules.specs.Layout.{desk_limit, pile_limit, body_length, body_view}
use Rattle.rules.specs.Opening.{body_size}
use Rattle.rules.proofs.Loops.Logic.{and_left, in_range}
use Rattle.rules.proofs.Loops.Refusals.{when_not_done, or_else_first, or_else_rest, or_else_passes, first_stops}
use Rattle.rules.proofs.Loops.Ranges.{piece_within}
use Rattle.rules.proofs.File.BodySize.{size_in_range}
use Rattle.layout.specs.Inner.{BodyWithin}
use Rattle.audit.specs.Audits.{body_after, shape_answer, bodies_answer}

module _ (n p from size : ℕ) where
  -- bodies of the right length are not refused for their shape
  module _ (desks : (1 ≤ n) × (n ≤ desk_limit)) (short : p ≤ pile_limit) where
    pub shape_fits : size ≡ from + p * body_length n → 0 ≡ shape_answer n p from size
    unfolding shape_answer between ◌and◌ ◌when◌ ◌or_else◌
    shape_fits e = rw (le-leb _ _ desks.0, le-leb _ _ desks.1, le-leb _ _ short, eq-eqb _ _ e)

  shaped : shape_answer n p from size ≡ 0 → (1 ≤ n) × (n ≤ desk_limit) × (size ≡ from + p * body_length n)
  unfolding shape_answer
  shaped e =
      let sizes = when_not_done _ _ (or_else_first _ _ e) in
      let desks = in_range _ _ _ (and_left _ _ sizes) in
      (desks.0, desks.1, eqb-true _ _ (when_not_done _ _ (or_else_rest _ _ e)))

module _ (n p from : ℕ) (b : List ℕ) (shape : shape_answer n p from (length b) ≡ 0) where
  pub size_shaped : body_size n ≡ body_length n
  size_shaped = let s = shaped n p from (length b) shape in size_in_range n s.0 s.1

  pub body_in_lem : (k : ℕ) → k < p → BodyWithin n (from + k * body_size n) b
  body_in_lem k l =
      let s = shaped n p from (length b) shape in
      rw size_shaped (record { desks_most = s.1; within = omega (arith, s.2, piece_within (body_length n) l) })

  pub body_refused : (k : ℕ) → k < p → first k (λ j. pile_answer n (body_after n b from j)) ≡ 0
      → pile_answer n (body_view n b (from + k * body_size n)) ≢ 0 → bodies_answer n p from b ≡ pile_answer n (body_view n b (from + k * body_size n))
  unfolding bodies_answer
  body_refused k l e d = let own = rw size_shaped at d in rw size_shaped (or_else_passes shape _ ∙ first_stops p _ k l e own)

-- what tells a `grind` of the body at each turn
pub ruleset bodies = (size_shaped, body_in_lem, body_refused)
