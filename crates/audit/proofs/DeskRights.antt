-- What is answered of one body that is there: a desk's rights, and its tonnage.
-- Assumes nothing.
use Prim.Native.Nat.{ℕ, ◌<◌}
use mathlib.Core.Path.{◌≡◌}
use mathlib.Core.Bool.{true}
use mathlib.Core.List.{List}
use lib.ListN.{length}
use borrow.Author.Tests.{lt-ltb}
use Rattle.rules.specs.Loops.{◌and◌}
use Rattle.rules.specs.Pile.{Side, rights, tonnage}
use Rattle.rules.specs.Layout.{body_view}
use Rattle.audit.specs.Audits.{body_there, rights_in, tonnage_in}

pub desk_there : (s : Side) (n at : ℕ) (b : List ℕ) (i : ℕ) → body_there n at (length b) ≡ true → i < n → rights n (body_view n b at) s i ≡ rights_in s n at b i
unfolding rights_in ◌and◌
desk_there s n at b i e l = rw (e, lt-ltb i n l)

pub tonnage_there : (n at : ℕ) (b : List ℕ) → body_there n at (length b) ≡ true → tonnage n (body_view n b at) ≡ tonnage_in n at b
unfolding tonnage_in
tonnage_there n at b e = rw e
