-- `put_bodies` writes one given pile after the other, each where the one before it ends.
use mathlib.Core.Path.{◌≡◌}
use Rattle.rules.specs.Layout.{front_length, body_at}
use Rattle.rules.proofs.Loops.Writing.{Written}
use Rattle.opening.specs.Inner.{book_head}
use Rattle.opening.proofs.Opened.{body}
use Rattle.opening.proofs.front.put_bodies.Given as goal

abbrev pub invariant-loop-k : goal.invariant-loop-k
invariant-loop-k l =
    (l.at ≡ body_at (book_head l.given) l.k) × Written l.initial.out (front_length (book_head l.given)) l.given.piles (body l.given) l.k l.out
