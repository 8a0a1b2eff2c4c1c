-- `same_run` goes over the numbers and the book's places together, and keeps whether each was the same so far.
use mathlib.Core.Path.{◌∙◌}
use mathlib.Core.Logic.{inl, inr, ⊎_elim}
use Rattle.store.proofs.Runs.{none_compared, one_same, one_other, all_compared}
use Rattle.store.proofs.same.same_run.Goals as goal

pub loop-bytes-init : goal.loop-bytes-init
loop-bytes-init c =
    let z = c.zip-bytes-items.ensures in
    rw (c.into_iter-bytes-iterator.ensures.into_iter_gives, z.first) (c.chunks_exact.ensures.size, none_compared c.chunks_exact.ensures.rest z.second.0)

pub loop-bytes-preserved-then-number-get4 : goal.loop-bytes-preserved-then-number-get4
loop-bytes-preserved-then-number-get4 c =
    let i = c.loop-bytes.invariant in
    let s = c.in-Some.ensures.steps in
    (s.0.0 ∙ i.0, one_other i.1 _ _ _ _ s.0.1.0 (s.0.1.1 ∙ i.0) s.1 c.get4.ensures c.if-number-get4.true)

pub loop-bytes-preserved : goal.loop-bytes-preserved
loop-bytes-preserved c =
    let i = c.loop-bytes.invariant in
    let s = c.in-Some.ensures.steps in
    (s.0.0 ∙ i.0, one_same i.1 _ _ _ _ s.0.1.0 (s.0.1.1 ∙ i.0) s.1 c.get4.ensures c.if-number-get4.false)

pub returns : goal.returns
returns c =
    let i = c.loop-bytes.invariant in
    all_compared i.1 c.requires (⊎_elim (λ u. inl (rw i.0 at u.1.1.0)) (λ u. inr u.1.0) c.in-None.ensures.steps)
