-- What the lines of the table for a book's bytes, and for a desk's call, are answered by.
-- Assumes nothing.
use Prim.Native.Nat.{ℕ, ◌+◌, ◌-◌, ◌*◌, ◌≤◌}
use native.Mathlib.Omega.{arith}
use mathlib.Core.Path.{◌≡◌, ap, sym}
use mathlib.Core.Bool.{Bool, true}
use mathlib.Core.List.{List}
use Rattle.rules.specs.Refusals.{◌when◌}
use Rattle.rules.specs.Layout.{desk_limit, pile_limit, Sizes, Head, head_of, piles, book_length}
use Rattle.rules.specs.Book.{head_sound, book_answer}
use Rattle.rules.proofs.Loops.Logic.{and_left, and_right}
use Rattle.rules.proofs.Loops.Refusals.{not_met, or_else_stands, or_else_passes}
use Rattle.rules.proofs.File.Readable.{sizes_range, book_facts}
use Rattle.rules.proofs.File.Positions.{entry_within, front_within}
use Rattle.layout.specs.Positions.{head_in, body_position}
use Rattle.layout.proofs.Positions.{head_there, position_is}
use Rattle.audit.proofs.Audits.{shape_fits}
use Rattle.book.specs.Inner.{EntriesWithin}

-- a line of the table is met or not, and the first that is met stands
pub met : (number : ℕ) {c : Bool} → c ≡ true → number when c ≡ number
unfolding ◌when◌
met number e = ap (λ (c : Bool). number when c) e

pub ruleset table = (met, not_met, or_else_stands, or_else_passes)

-- what a sound head says of its book
module _ (h : Head) (sound : head_sound h ≡ true) where
  sizes : Sizes h.desks h.piles
  unfolding head_sound
  sizes = sizes_range _ _ (and_left _ _ (and_right _ _ sound))

  pub sizes_told : 1 ≤ h.desks × h.desks ≤ desk_limit × 1 ≤ h.piles × h.piles ≤ pile_limit
  sizes_told = (sizes.desks_least, sizes.desks_most, sizes.piles_least, sizes.piles_most)

  pub ends : book_length h ≡ body_position h h.piles
  unfolding book_length
  ends = sym (position_is h h.piles sizes.desks_least sizes.desks_most)

  -- its entries stand before every body
  pub entries_fit : (k : ℕ) → 4 + h.piles * 6 ≤ body_position h k
  unfolding body_position
  entries_fit k = let some = sizes.piles_least in omega (arith, entry_within h (h.piles - 1) (omega arith))

pub ruleset book_lines = (table, head_there, ends, sizes_told, entries_fit)

pub ruleset bodies_lines = (or_else_passes, shape_fits)

-- a book that is readable has its head and its entries
module _ (b : List ℕ) (passed : book_answer b ≡ 0) where
  pub head_read : head_in b ≡ head_of b
  head_read = head_there b (book_facts b passed).long

  pub entries_there : EntriesWithin (piles b) b
  entries_there =
      let sized = (book_facts b passed).sized in
      record { within = λ k l. omega (arith, sized, entry_within (head_of b) k l, front_within (head_of b)) }

pub ruleset find_lines = (table, head_read, entries_there)
