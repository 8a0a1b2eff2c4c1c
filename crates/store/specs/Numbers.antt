-- A pile's record as a list of 163 numbers, out of a book and into it.
-- Assumes nothing.
use Rattle.std.specs.Prelude.{ℕ, not, List, length, ltb, eqb}
use Rattle.std.proofs.lemmas.List.Edits.{sets}
use Rattle.rules.specs.Refusals.{◌when◌, ◌or_else◌, done}
use Rattle.rules.specs.Book.{fetch_answer}
use Rattle.rules.specs.Record.{fetched, store_answer, after_store}
use Rattle.padding.specs.Lists.{record_length, record_numbers, numbers_record}

-- fetching a pile into a lent list: as fetch, and last 8 where the list is shorter than a record; numbers past the record stay
unfoldable pub fetch_numbers_answer : List ℕ → ℕ → ℕ → ℕ
fetch_numbers_answer b number room = fetch_answer b number or_else 8 when ltb room record_length

unfoldable pub after_fetch_numbers : List ℕ → ℕ → List ℕ → List ℕ
after_fetch_numbers b number out =
    done (fetch_numbers_answer b number (length out)) (sets out 0 (record_numbers (fetched b number))) out

-- storing a list as a pile's record: as store, with 3 for a list of another length after 10 and before the record's own
unfoldable pub store_numbers_answer : List ℕ → ℕ → List ℕ → ℕ
store_numbers_answer b number l =
    fetch_answer b number
    or_else 3 when not (eqb (length l) record_length)
    or_else store_answer b number (numbers_record l)

unfoldable pub after_store_numbers : List ℕ → ℕ → List ℕ → List ℕ
after_store_numbers b number l = done (store_numbers_answer b number l) (after_store b number (numbers_record l)) b
