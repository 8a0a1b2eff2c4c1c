-- `check_bodies` asks one body after the other, and stops at the first that is refused.
use mathlib.Core.Path.{sym}
use Rattle.audit.proofs.Audits.{body_in_lem}
use Rattle.audit.proofs.check_bodies.Goals as goal

pub at-requires : goal.at-requires
at-requires c = let a = c.args in rw c.body_length-size.ensures (body_in_lem a.n a.p a.from a.bytes.now (sym c.in_ok-shape_answer.ensures) c.loop-k.k c.loop-k-test.true)
