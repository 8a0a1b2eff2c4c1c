-- `Body.written_out` is the same body: two of as many desks and the same bytes differ in nothing.
use Prim.Native.Nat.{ℕ}
use mathlib.Core.Path.{◌≡◌}
use mathlib.Core.HLevel.{is_prop→PathP}
use Rattle.std.proofs.Props.{props}
use Rattle.layout.specs.Inner.{BodyWithin}
use Rattle.audit.specs.declared.body.Body.{Body}
use Rattle.audit.proofs.body.Body.written_out.Goals as goal

same : (b : Body) {n : ℕ} (e : n ≡ b.n) (whole : BodyWithin n 0 b.bytes.now) → ◌≡◌ {A = Body} (record { bytes = b.bytes; n = n; whole = whole }) b
same b e whole = λ i. record { bytes = b.bytes; n = e i; whole = is_prop→PathP (λ j. BodyWithin (e j) 0 b.bytes.now) (λ j. hlevel props) whole b.whole i }

pub returns : goal.returns
returns c = same c.args.self c.requires _
