-- `put_front` writes the head, and the contents behind it, which make up the front.
use Prim.Native.Nat.{◌≤◌}
use native.Mathlib.Omega.{arith}
use mathlib.Core.Path.{◌∙◌}
use lib.ListN.{length}
use Rattle.rules.proofs.File.Positions.{head_within}
use Rattle.opening.specs.Inner.{book_head}
use Rattle.opening.proofs.Done.{is_done, head_done}
use Rattle.opening.proofs.Opened.{put_front}
use Rattle.opening.proofs.front.put_front.Goals as goal
use Rattle.opening.proofs.front.put_front.Goals.{After-put_head}

room : (c : After-put_head) → 4 ≤ length c.args.out.now
room c = omega (arith, head_within (book_head c.args.given.now), c.requires.room)

pub unwrap-requires : goal.unwrap-requires
unwrap-requires c = is_done _ (c.put_head.ensures.answer ∙ head_done _ (room (goal.at.unwrap-requires c).After-put_head))

pub returns : goal.returns
returns c = put_front c.args.given.now _ (room (goal.at.returns c).After-put_head) c.head_for.ensures c.put_head.ensures.out c.put_contents.ensures
