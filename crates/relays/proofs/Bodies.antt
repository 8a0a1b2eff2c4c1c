-- Bodies that are lawful, computed, so that a narrower meaning of lawful would be noticed: numbers over the limits of 5 and 6, and nine desks, more than any file has.
-- Assumes nothing.
use Prim.Native.Nat.{ℕ, ◌+◌, ◌<◌}
use mathlib.Core.Path.{◌≡◌, refl}
use mathlib.Core.Bool.{Bool, true, cond}
use mathlib.Core.List.{[], ◌∷◌, ◌++◌}
use lib.ListN.{length}
use lib.Dec.{eqb}
use borrow.Author.Tests.{eqb-true}
use Rattle.rules.specs.Loops.{every, list}
use Rattle.rules.specs.Layout.{columns}
use Rattle.rules.proofs.Loops.Every.{every_at}
use Rattle.rules.proofs.Cases.Table.{open_loops, open_refusals, open_pile}
use Rattle.relays.specs.Join.{Body, Book, desk_row}
use Rattle.relays.specs.Laws.{LawfulBody}

-- a book with the same body for each of p piles
abbrev pub repeated : ℕ → Body → Book
repeated p x = list p (λ k. x)

-- that a body's rows are as long as those of n desks is computed
long_rows : (n : ℕ) (x : Body) → every n (λ i. eqb (length (desk_row x i)) (columns n)) ≡ true → (i : ℕ) → i < n → length (desk_row x i) ≡ columns n
long_rows n x e i l = eqb-true _ _ (every_at n _ e i l)

-- one desk with a tip share of 5,000,000,000 between a floor and a top of 0, which 5 refuses, and a tally over 1,000,000,000, which 6 refuses: no rights are negative
abbrev pub unlimited : ℕ → Body
unlimited tipped = record { opening = 0 ∷ 0 ∷ 0 ∷ 5000000000 ∷ []; rows = (tipped ∷ 0 ∷ 0 ∷ 0 ∷ []) ∷ [] }

pub less_lawful : LawfulBody 1 (unlimited 2000000000)
unfolding open_loops open_refusals open_pile
less_lawful = record { opening = refl; desks = refl; rows = long_rows 1 (unlimited 2000000000) refl; none_negative = refl }

pub more_lawful : LawfulBody 1 (unlimited 3000000000)
unfolding open_loops open_refusals open_pile
more_lawful = record { opening = refl; desks = refl; rows = long_rows 1 (unlimited 3000000000) refl; none_negative = refl }

-- n desks; floor 0, top n, to each desk a tip share of 1, which these desks tipped
abbrev pub wide : ℕ → (ℕ → Bool) → Body
wide n tipped =
    record {
      opening = 0 ∷ n ∷ (list n (λ i. 0) ++ list n (λ i. 1));
      rows = list n (λ i. cond (tipped i) 1 0 ∷ 0 ∷ list (n + n) (λ c. 0));
    }

-- of nine desks the first, or the last
abbrev pub first_tipped : Body
first_tipped = wide 9 (λ i. eqb i 0)

abbrev pub last_tipped : Body
last_tipped = wide 9 (λ i. eqb i 8)

pub first_lawful : LawfulBody 9 first_tipped
unfolding open_loops open_refusals open_pile
first_lawful = record { opening = refl; desks = refl; rows = long_rows 9 first_tipped refl; none_negative = refl }

pub last_lawful : LawfulBody 9 last_tipped
unfolding open_loops open_refusals open_pile
last_lawful = record { opening = refl; desks = refl; rows = long_rows 9 last_tipped refl; none_negative = refl }
