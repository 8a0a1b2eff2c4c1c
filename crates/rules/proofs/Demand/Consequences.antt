-- What the claims say of books in plain terms, so that a weaker one would be noticed. Demand 3: at every moment every desk's book has each pile between
-- floor and top, the newest copy of a desk's own book included; and there are such books of 8 desks. 1/12: between holds of each pile number, and no narrower
-- bounds can be told from a book.
-- Assumes nothing.
use Prim.Native.Nat.{ℕ, ◌≤◌, ◌<◌}
use native.Mathlib.Omega.{arith}
use mathlib.Core.Path.{◌≡◌, refl, ◌∙◌}
use mathlib.Core.List.{List, [], ◌∷◌}
use lib.ListN.{length}
use borrow.Author.Tests.{eqb-true}
use Rattle.history.specs.Replica.{Call, take, Valid}
use Rattle.history.specs.Books.{books}
use Rattle.history.specs.Made.{global}
use Rattle.history.specs.Claim.{Demand3}
use Rattle.history.proofs.Demand.{claim_within}
use Rattle.history.proofs.Refuted.{own_newest_copy}
use Rattle.rules.specs.Pile.{tonnage}
use Rattle.rules.specs.Acts.{Act}
use Rattle.rules.specs.Layout.{desks, piles, pile_number, pile_of}
use Rattle.rules.specs.Opening.{Opens, opened}
use Rattle.rules.specs.Book.{place}
use Rattle.rules.specs.Take.{take_answer}
use Rattle.rules.specs.Demand.{book, Within, Possible, tonnage_of, TalliesUpTo}
use Rattle.rules.proofs.Loops.Every.{index_holds}
use Rattle.rules.proofs.Cases.Table.{open_loops, open_refusals, open_pile, open_layout, open_opening}
use Rattle.rules.proofs.Demand.BookLaws.{book_demand3}
use Rattle.rules.proofs.Demand.Between.{book_between}
use Rattle.rules.proofs.Demand.Reached.{book_reached}

module _ (n p : ℕ) (l : List ℕ) (accepted : Opens n p l) (h : List (Call Act)) (valid : Valid n h) where
  abbrev book_of : ℕ → ℕ → List ℕ
  book_of = books book (opened n p l) h

  -- no book has a pile below its floor or above its top
  pub never_outside : (m i : ℕ) → m ≤ length h → i < n → (k : ℕ) → k < piles (book_of m i)
      → let known = tonnage (desks (book_of m i)) (pile_of (book_of m i) k) in
      ((pile_of (book_of m i) k).floor ≤ known) × (known ≤ (pile_of (book_of m i) k).top)
  unfolding tonnage
  never_outside m i m≤h i<n k k<p =
      let w = claim_within book n Within (opened n p l) h (book_demand3 n p l accepted h valid) m i m≤h i<n k k<p in
      (omega (arith, w.above_floor, w.below_top), omega (arith, w.below_top))

  -- a desk that takes the copy of its own newest book is not refused
  pub own_copy_taken : (i : ℕ) → i < n → take_answer i (book_of (length h) i) (book_of (length h) i) ≡ 0
  own_copy_taken i i<n = (book_demand3 n p l accepted (take i i (length h) ∷ h) (own_newest_copy book n i h i<n valid)).taken.0

  -- where a desk's own book has a pile of some number, so has the book of all acts made, at the same place, and its tonnage there is possible
  pub between_on_pile : (m d number : ℕ) → m ≤ length h → d < n → place (book_of m d) number < piles (book_of m d)
      → let k = place (book_of m d) number in
      let all = global book n (opened n p l) h m in
      (pile_number all k ≡ number) × Possible d (book_of m d) k (tonnage_of all k)
  unfolding place
  between_on_pile m d number m≤h d<n there =
      let between = book_between n p l accepted h valid m d m≤h d<n _ there in
      (between.0 ∙ eqb-true _ _ (index_holds (piles (book_of m d)) _ there), between.1)

-- Whatever can be told of a pile's tonnage by all acts made from a desk's own newest book, it is true of every possible tonnage of that pile.
module _ (n p : ℕ) (l : List ℕ) (accepted : Opens n p l) (d : ℕ) (d<n : d < n) (k : ℕ) where
  abbrev newest : List (Call Act) → List ℕ
  newest h = books book (opened n p l) h (length h) d

  abbrev made : List (Call Act) → List ℕ
  made h = global book n (opened n p l) h (length h)

  pub nothing_narrower : (Told : List ℕ → (number tonnage : ℕ) → Type 0)
      → ((h : List (Call Act)) → Valid n h → Told (newest h) (pile_number (made h) k) (tonnage_of (made h) k))
      → (h : List (Call Act)) → Valid n h → TalliesUpTo 990000000 (newest h) → k < piles (newest h)
      → (x : ℕ) → Possible d (newest h) k x → Told (newest h) (pile_number (newest h) k) x
  nothing_narrower Told told h valid few k<p x possible =
      let r = book_reached n p l accepted h valid d d<n few k x k<p possible in
      rw (r.own_book, r.same_pile, r.tonnage_is) at (told r.calls r.valid)

-- a book of 8 desks and one pile of 8 tonnes, each desk with one tip share
abbrev eight : List ℕ
eight = 1 ∷ 0 ∷ 8 ∷ 0 ∷ 0 ∷ 0 ∷ 0 ∷ 0 ∷ 0 ∷ 0 ∷ 0 ∷ 1 ∷ 1 ∷ 1 ∷ 1 ∷ 1 ∷ 1 ∷ 1 ∷ 1 ∷ []

eight_accepted : Opens 8 1 eight
unfolding open_loops open_refusals open_pile open_layout open_opening
eight_accepted = refl

pub eight_desks : Demand3 book 8 Within (opened 8 1 eight)
eight_desks = book_demand3 8 1 eight eight_accepted
