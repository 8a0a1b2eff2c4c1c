-- `body_length` reads a table whose entries are document 01's lengths: one test says so of all eight, and antt computes it on the code's own table.
use Rattle.std.proofs.Common.{ℕ, ◌+◌, ◌-◌, ◌≤◌, ◌<◌, List, get_or, ◌≡◌, ap, sym, ◌∙◌, true, inl, inr, arith, rules}
use mathlib.Core.Logic.{⊎_elim}
use lib.Dec.{eqb}
use borrow.Author.Tests.{eqb-true}
use Rattle.rules.specs.Loops.{◌and◌, every}
use Rattle.rules.specs.Layout.{desk_limit, body_length}
use Rattle.rules.proofs.Loops.Every.{every_at}
use Rattle.rules.proofs.File.BodySize.{size_in_range, size_out_of_range}
use Rattle.layout.proofs.lengths.body_length.Goals as goal

-- where the entry at each place k is the length of a body of k + 1 desks, each entry that is read is the length that is asked for
entry_right : (table : List ℕ) (n : ℕ) → every desk_limit (λ k. eqb (get_or table k 0) (body_length (k + 1))) ≡ true → 1 ≤ n → n ≤ desk_limit
    → get_or table (n - 1) 0 ≡ body_length n
entry_right table n right least most =
    let below : n - 1 < desk_limit = omega arith in
    let counted : n - 1 + 1 ≡ n = omega arith in
    eqb-true _ _ (every_at desk_limit _ right (n - 1) below) ∙ ap body_length counted

pub returns-then-desks-lt1 : goal.returns-then-desks-lt1
returns-then-desks-lt1 c =
    sym (size_out_of_range _ (⊎_elim (λ few. inl (omega (arith, few))) (λ many. inr (omega (arith, many.1))) c.then-desks-lt1.either))

pub returns : goal.returns
unfolding body_length every ◌and◌
returns c =
    let least : 1 ≤ c.args.n = omega arith in
    let most : c.args.n ≤ desk_limit = omega arith in
    rw (size_in_range c.args.n least most) (c.from.ensures ∙ rw c.from-desks.ensures (search (rules, entry_right)))
