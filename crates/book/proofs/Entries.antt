-- Whether the contents of a book are right, and where they have a pile number, from what a loop over the entries finds.
-- Assumes nothing.
use Prim.Native.Nat.{ℕ, ◌+◌, ◌<◌, ◌≤◌}
use native.Mathlib.Omega.{arith}
use mathlib.Core.Path.{◌≡◌, refl, sym, ◌∙◌}
use native.Mathlib.Nat.{eq-or-lt_of_le}
use mathlib.Core.Logic.{◌≢◌, ⊎_elim}
use mathlib.Core.Bool.{Bool, true, false, true≢false}
use mathlib.Core.List.{List}
use Rattle.std.specs.Prelude.{Option, Some, None, IfSome, IfNone, MatchOption}
use lib.Dec.{eqb}
use borrow.Author.Tests.{ne_eqb}
use Rattle.rules.specs.Loops.{every}
use Rattle.rules.specs.Layout.{Sizes, Head, front_length, body_at, position, pile_number}
use Rattle.rules.specs.Opening.{body_size, rising}
use Rattle.rules.specs.Book.{contents_sound}
use Rattle.rules.proofs.Loops.Logic.{and_both, and_left_fails, and_right_fails}
use Rattle.rules.proofs.Loops.Every.{every_next, every_stops, index_first, index_most, index_holds}
use Rattle.rules.proofs.File.Risen.{next_risen, not_risen, all_risen}
use Rattle.layout.specs.Positions.{body_position}
use Rattle.layout.proofs.Positions.{size_most, position_is}
use Rattle.layout.proofs.Entries.{entry_says_number, entry_says_position}
use Rattle.book.specs.Inner.{place_among}

-- the first k entries say where their bodies start, and where the next one starts is at hand
pub record Placed (h : Head) (b : List ℕ) (k next : ℕ) : Type 0 where
  pub next_is : next ≡ body_position h k
  pub right : every k (λ j. eqb (position b j) (body_at h j)) ≡ true

pub none_rise : (f : ℕ → ℕ) → rising 0 f ≡ true
unfolding rising every
none_rise f = refl

pub none_tested : (t : ℕ → Bool) → every 0 t ≡ true
unfolding every
none_tested t = refl

module _ (h : Head) where
  pub position_first : body_position h 0 ≡ front_length h
  unfolding body_position
  position_first = omega arith

  pub position_next : (k : ℕ) → body_position h (k + 1) ≡ body_position h k + body_size h.desks
  unfolding body_position
  position_next k = omega arith

  pub starts : Sizes h.desks h.piles → (k : ℕ) → body_position h k ≡ body_at h k
  starts sizes k = position_is h k sizes.desks_least sizes.desks_most

pub misplaced : {h : Head} {b : List ℕ} {k next : ℕ} → Placed h b k next → Sizes h.desks h.piles → k < h.piles → position b k ≢ next
    → contents_sound h b ≡ false
unfolding contents_sound
misplaced {h} {b} {k} placed sizes l d =
    and_right_fails _ (every_stops _ _ k l (ne_eqb _ _ (λ e. d (e ∙ sym (placed.next_is ∙ starts h sizes k)))))

pub ruleset contents_loop = (
  none_rise,
  none_tested,
  next_risen,
  not_risen,
  all_risen,
  position_first,
  position_next,
  size_most,
  starts,
  every_next,
  misplaced,
  and_both,
  and_left_fails,
  entry_says_number,
  entry_says_position,
)

-- what a search tells of the first of p entries that has a number
module _ (b : List ℕ) (p number : ℕ) where
  abbrev pub says : ℕ → Bool
  says k = eqb (pile_number b k) number

  abbrev pub Searched : Option ℕ → Type 0
  Searched r = MatchOption r ((k : ℕ) → 0 ≤ k → k < p → says k ≡ false) (λ i. (0 ≤ i) × (i < p) × (says i ≡ true) × ((k : ℕ) → 0 ≤ k → k < i → says k ≡ false))

  pub place_there : (r : Option ℕ) → Searched r → IfSome r (λ k. (k < p) × (k ≡ place_among p b number))
  place_there (Some i) (_, l, e, none) = (l, sym (index_first p says i l e (λ j k. none j (omega arith) k)))
  place_there None _ = tt

  pub place_absent : (r : Option ℕ) → Searched r → IfNone r (place_among p b number ≡ p)
  place_absent (Some i) _ = tt
  place_absent None none =
      ⊎_elim (λ e. e) (λ l. absurd (true≢false (sym (index_holds p says l) ∙ none _ (omega arith) l))) (eq-or-lt_of_le (index_most p says))
