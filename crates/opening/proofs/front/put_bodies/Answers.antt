-- `put_bodies` writes one given pile after the other, each where the one before it ends.
use Prim.Native.Nat.{◌+◌, ◌≤◌}
use native.Mathlib.Omega.{arith}
use mathlib.Core.Path.{◌≡◌, ap, sym, ◌∙◌}
use lib.ListN.{length}
use Rattle.rules.specs.Layout.{front_length, body_length}
use Rattle.rules.specs.Record.{record_of}
use Rattle.pile.specs.View.{as_record}
use Rattle.rules.proofs.Loops.Refusals.{first_at}
use Rattle.rules.proofs.Loops.Writing.{none_written, next_written}
use Rattle.rules.proofs.File.Body.{length_body}
use Rattle.rules.proofs.File.BodySize.{size_in_range}
use Rattle.rules.proofs.File.Positions.{first_body_lem, body_start_lem, next_body, body_within}
use Rattle.opening.specs.Inner.{pile_in, book_head}
use Rattle.opening.proofs.Done.{is_done}
use Rattle.opening.proofs.Opened.{put_given, pack_done}
use borrow.Author.Rules.{rules}
use Rattle.opening.proofs.front.put_bodies.Goals as goal
use Rattle.opening.proofs.front.put_bodies.Goals.{At-loop-k, In-loop-k, After-unwrap-pile}

-- by 1 to 8 desks the size that was asked for is that of a body
size_is : (c : At-loop-k) → c.body_length-size.result ≡ body_length c.args.given.now.desks
size_is c = c.body_length-size.ensures ∙ size_in_range _ c.args.given.now.desks_least c.args.given.now.desks_most

-- the body of this turn has its place
room : (c : In-loop-k) → c.loop-k.at + body_length c.args.given.now.desks ≤ length c.loop-k.out
room c = omega (arith, body_within (book_head c.args.given.now) c.loop-k.k c.loop-k-test.true)

pub loop-k-init : goal.loop-k-init
loop-k-init c =
    (c.front_length-at.ensures ∙ ap front_length c.head.ensures ∙ sym (first_body_lem (book_head c.args.given.now)), none_written)

pub overflow_add-at : goal.overflow_add-at
overflow_add-at c = search (rules, room (goal.at.overflow_add-at c).In-loop-k, size_is (goal.at.overflow_add-at c).At-loop-k)

pub unwrap-pile-requires : goal.unwrap-pile-requires
unwrap-pile-requires c = is_done _ (rw (c.pile.ensures.pile, c.pile.ensures.desks) at c.record.ensures.answer ∙ first_at c.args.given.now.piles _ c.requires.lawful c.loop-k.k c.loop-k-test.true)

-- the pile that is packed
is : (c : After-unwrap-pile) → let g = c.args.given.now in as_record c.unwrap-pile.result ≡ record_of g.desks (pile_in g c.loop-k.k)
is c = rw (c.pile.ensures.pile, c.pile.ensures.desks, c.unwrap-pile.ensures) at c.record.ensures.pile

pub unwrap-requires : goal.unwrap-requires
unwrap-requires c =
    let turn = goal.at.unwrap-requires c in
    is_done _ (c.pack.ensures.answer ∙ pack_done c.args.given.now c.loop-k.k _ _ (room turn.In-loop-k) (is turn.After-unwrap-pile) c.numbers.ensures)

pub loop-k-preserved : goal.loop-k-preserved
loop-k-preserved c =
    let g = c.args.given.now in
    let turn = goal.at.loop-k-preserved c in (
      omega (arith, c.loop-k.invariant.0, size_is turn.At-loop-k, next_body (book_head g) c.loop-k.k),
      next_written _ (λ j _. length_body g.desks (pile_in g j)) c.loop-k.invariant.1 c.loop-k-test.true
          (c.loop-k.invariant.0 ∙ body_start_lem (book_head g) c.loop-k.k)
          (put_given g c.loop-k.k _ _ (room turn.In-loop-k) (is turn.After-unwrap-pile) c.numbers.ensures c.pack.ensures.bytes),
    )
