-- Fetching and storing as a list of 163 numbers are inverse, as they are of a record (`FetchStore`, `StoreFetch` of the rules).
-- Assumes nothing.
use Rattle.std.specs.Prelude.{ℕ, ◌≤◌, ◌≡◌, List, length}
use Rattle.rules.specs.Numbers.{Octets, part}
use Rattle.padding.specs.Lists.{record_length}
use Rattle.store.specs.Numbers.{fetch_numbers_answer, after_fetch_numbers, store_numbers_answer, after_store_numbers}

-- what fetching leaves at the start of a lent list that has room for a record
abbrev pub fetched_numbers : List ℕ → ℕ → List ℕ → List ℕ
fetched_numbers b number out = part 0 record_length (after_fetch_numbers b number out)

-- A pile that is fetched into a list and stored again restores the file, byte for byte.
abbrev pub FetchStoreNumbers : Type 0
FetchStoreNumbers =
    (b : List ℕ) (number : ℕ) (out : List ℕ) → Octets b → fetch_numbers_answer b number (length out) ≡ 0
    → let l = fetched_numbers b number out in
    (store_numbers_answer b number l ≡ 0) × (after_store_numbers b number l ≡ b)

-- A list that is stored is fetched unaltered into any list that has room for it.
abbrev pub StoreFetchNumbers : Type 0
StoreFetchNumbers =
    (b : List ℕ) (number : ℕ) (l out : List ℕ) → Octets b → store_numbers_answer b number l ≡ 0 → record_length ≤ length out
    → let after = after_store_numbers b number l in
    (fetch_numbers_answer after number (length out) ≡ 0) × (fetched_numbers after number out ≡ l)
