-- Where the parts of a book stand, by its head. These are the facts on positions that proofs go by: nothing else here or above sees through `front_length`.
-- Assumes nothing.
use Prim.Native.Nat.{ℕ, ◌+◌, ◌*◌, ◌≤◌, ◌<◌}
use native.Mathlib.Nat.{mul-le-mul, zero-mul, add-zero}
use native.Mathlib.Omega.{arith}
use mathlib.Core.Path.{◌≡◌, refl, ap, ◌∙◌}
use Rattle.rules.specs.Layout.{Sizes, Head, head_for, body_length, entry_at, front_length, body_at, book_length}
use Rattle.rules.proofs.Loops.Ranges.{piece_within}

module _ (h : Head) where
  -- the front has a head of 4 bytes, and an entry of 6 for each pile
  pub head_within : 4 ≤ front_length h
  unfolding front_length
  head_within = omega arith

  pub entry_within : (k : ℕ) → k < h.piles → entry_at k + 6 ≤ front_length h
  unfolding front_length
  entry_within k l = omega (arith, piece_within 6 l)

  -- bodies stand behind it, one after the other, up to the book's end
  pub body_start_lem : (k : ℕ) → body_at h k ≡ front_length h + k * body_length h.desks
  unfolding body_at
  body_start_lem k = refl

  pub first_body_lem : body_at h 0 ≡ front_length h
  unfolding body_at
  first_body_lem = ap (λ (x : ℕ). front_length h + x) (zero-mul (body_length h.desks)) ∙ add-zero (front_length h)

  pub next_body : (k : ℕ) → body_at h (k + 1) ≡ body_at h k + body_length h.desks
  unfolding body_at
  next_body k = omega arith

  pub book_end : book_length h ≡ front_length h + h.piles * body_length h.desks
  unfolding book_length body_at
  book_end = refl

  pub front_within : front_length h ≤ book_length h
  front_within = omega (arith, book_end)

  -- body k lies within its book
  pub body_within : (k : ℕ) → k < h.piles → body_at h k + body_length h.desks ≤ book_length h
  body_within k l = omega (arith, body_start_lem k, book_end, piece_within (body_length h.desks) l)

  pub body_behind : (k : ℕ) → front_length h ≤ body_at h k
  body_behind k = omega (arith, body_start_lem k)

-- lengths from 42 to 20,932
pub lengths : (n p : ℕ) → Sizes n p → (42 ≤ book_length (head_for n p)) × (book_length (head_for n p) ≤ 20932)
unfolding book_length body_at front_length body_length
lengths n p s =
    let low : 2 ≤ n + 1 = omega arith in
    let high : n + 1 ≤ 9 = omega arith in
    (omega (arith, mul-le-mul s.piles_least (mul-le-mul low low)), omega (arith, mul-le-mul s.piles_most (mul-le-mul high high)))
