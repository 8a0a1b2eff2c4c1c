-- A body's length as it is told to whoever asks, and positions by it: for 1 to 8 desks those of the rules; and none is large.
-- Assumes nothing.
use Prim.Native.Nat.{ℕ, ◌+◌, ◌*◌, ◌≤◌}
use native.Mathlib.Nat.{mul-le-mul}
use native.Mathlib.Omega.{arith}
use mathlib.Core.Path.{◌≡◌, ap, sym, ◌∙◌}
use mathlib.Core.Logic.{⊎_elim}
use mathlib.Core.Bool.{cond}
use mathlib.Core.List.{List}
use lib.ListN.{length}
use borrow.Author.Tests.{le-ltb}
use Rattle.rules.specs.Loops.{between}
use Rattle.rules.specs.Layout.{Head, head_of, desk_limit, body_length, front_length, body_at}
use Rattle.rules.specs.Opening.{body_size}
use Rattle.rules.proofs.Loops.Logic.{decided, in_range}
use Rattle.rules.proofs.File.BodySize.{size_in_range}
use Rattle.rules.proofs.File.Positions.{body_start_lem}
use Rattle.layout.proofs.Short.{body_most}
use Rattle.layout.specs.Positions.{head_in, body_position}

pub size_most : (n : ℕ) → body_size n ≤ 648
unfolding body_size
size_most n =
    ⊎_elim (λ t. omega (arith, ap (λ b. cond b (body_length n) 0) t, body_most n (in_range 1 desk_limit n t).1))
    (λ f. omega (arith, ap (λ b. cond b (body_length n) 0) f)) (decided (between 1 desk_limit n))

pub front_most : (h : Head) → h.piles ≤ 255 → front_length h ≤ 1534
unfolding front_length
front_most h l = omega arith

pub position_most : (h : Head) (k : ℕ) → h.piles ≤ 255 → k ≤ 255 → body_position h k ≤ 166774
unfolding body_position
position_most h k p≤ k≤ = omega (arith, front_most h p≤, mul-le-mul k≤ (size_most h.desks))

-- for 1 to 8 desks a position is where the body starts
pub position_is : (h : Head) (k : ℕ) → 1 ≤ h.desks → h.desks ≤ desk_limit → body_position h k ≡ body_at h k
unfolding body_position
position_is h k least most = ap (λ (x : ℕ). front_length h + k * x) (size_in_range h.desks least most) ∙ sym (body_start_lem h k)

-- of a book that has its head, that head is read
pub head_there : (b : List ℕ) → 4 ≤ length b → head_in b ≡ head_of b
unfolding head_in
head_there b long = rw (le-ltb _ _ long)
