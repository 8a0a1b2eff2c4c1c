-- Comparing two rows of m numbers, each read as a function of its place.
-- Assumes nothing.
use Rattle.std.specs.Prelude.{ℕ, suc, ◌*◌, ◌/◌, Bool, true, false, cond, not, List, [], length, leb, eqb}
use Rattle.rules.specs.Loops.{◌and◌, every, some}
use Rattle.rules.specs.Refusals as reply
use Rattle.rules.specs.Refusals.{Reply, value}
use Rattle.rules.specs.Numbers.{number}
use Rattle.rules.specs.Layout.{row_length}

-- at least the other at every place: the product order
unfoldable pub at_least : ℕ → (ℕ → ℕ) → (ℕ → ℕ) → Bool
at_least m f g = every m (λ c. leb (g c) (f c))

unfoldable pub alike : ℕ → (ℕ → ℕ) → (ℕ → ℕ) → Bool
alike m f g = every m (λ c. eqb (f c) (g c))

-- Later: at least the other at every place, and differs from it (strict domination in the product order).
unfoldable pub later : ℕ → (ℕ → ℕ) → (ℕ → ℕ) → Bool
later m f g = at_least m f g and not (alike m f g)

-- What comparing two rows of a desk tells, mine and the copy's: they are alike, mine is later, the copy's is later, or they are split. Rows that
-- cannot be compared meet a refusal's number alone.
pub data Comparison : Type 0 where
  both_alike mine_later copy_later both_split : Comparison
  refused : ℕ → Comparison

-- Split: the rows differ with neither later (a fork: the desk acted twice from one old book).
unfoldable pub row_order : ℕ → (ℕ → ℕ) → (ℕ → ℕ) → Comparison
row_order m mine copy = cond (alike m mine copy) both_alike (cond (later m mine copy) mine_later (cond (later m copy mine) copy_later both_split))

-- a comparison as a reply in numbers: the four as 1 to 4, in the order of the request, or the refusal's number alone
abbrev pub order_reply : Comparison → Reply
order_reply both_alike = value 1
order_reply mine_later = value 2
order_reply copy_later = value 3
order_reply both_split = value 4
order_reply (refused number) = reply.refused number

-- does a comparison tell that the rows are alike; that the copy's is later; that they are split
abbrev pub is_alike : Comparison → Bool
is_alike both_alike = true
is_alike mine_later = false
is_alike copy_later = false
is_alike both_split = false
is_alike (refused number) = false

abbrev pub is_copy_later : Comparison → Bool
is_copy_later both_alike = false
is_copy_later mine_later = false
is_copy_later copy_later = true
is_copy_later both_split = false
is_copy_later (refused number) = false

abbrev pub is_split : Comparison → Bool
is_split both_alike = false
is_split mine_later = false
is_split copy_later = false
is_split both_split = true
is_split (refused number) = false

-- the numbers of a row that stands in bytes, and how many they are
abbrev pub numbers_of : List ℕ → ℕ → ℕ
numbers_of row c = number 4 row (c * 4)

abbrev pub places : List ℕ → ℕ
places row = length row / 4

-- 8(n + 1) bytes for an n from 1 to 8
unfoldable pub is_row_length : ℕ → Bool
is_row_length ℓ = some 8 (λ k. eqb ℓ (row_length (suc k)))

-- Comparing two rows that stand in bytes. Rows that differ in length, or have the length of no row, meet 3.
unfoldable pub compared : List ℕ → List ℕ → Comparison
compared mine copy =
    cond (is_row_length (length mine) and eqb (length mine) (length copy)) (row_order (places mine) (numbers_of mine) (numbers_of copy)) (refused 3)

-- The later of two rows, handed on as a part of whichever book has it; of two alike rows the first. It is empty where the rows are split, differ
-- in length or have the length of no row.
abbrev pub handed_on : Comparison → List ℕ → List ℕ → List ℕ
handed_on both_alike mine copy = mine
handed_on mine_later mine copy = mine
handed_on copy_later mine copy = copy
handed_on both_split mine copy = []
handed_on (refused number) mine copy = []

abbrev pub later_row : List ℕ → List ℕ → List ℕ
later_row mine copy = handed_on (compared mine copy) mine copy
