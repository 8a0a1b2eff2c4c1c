-- Plans of relays: any number of books joined in any grouping, in any order, and any of them more than once (6/12).
-- Assumes nothing.
use Rattle.std.specs.Prelude.{ℕ, ◌≡◌, ◌⊎◌, List}
use Rattle.rules.specs.Numbers.{Octets}
use Rattle.rules.specs.Take.{taken}
use Rattle.relays.specs.Join.{Book, join}
use Rattle.relays.specs.Laws.{Related, Joins}
use Rattle.relays.specs.Files.{join_answer}
use Rattle.relays.specs.FileLaws.{FileJoins}

-- a book by its number, or what one plan gives joined with what another gives
pub data Plan : Type 0 where
  numbered : ℕ → Plan
  relay : Plan → Plan → Plan

-- is a book among those of a plan
abbrev pub Names : Plan → ℕ → Type 0
Names (numbered j) i = i ≡ j
Names (relay t u) i = Names t i ⊎ Names u i

-- two plans name the same books
abbrev pub SameNames : Plan → Plan → Type 0
SameNames t u = (i : ℕ) → (Names t i → Names u i) × (Names u i → Names t i)

-- what a plan gives of books
abbrev pub carried : ℕ → ℕ → (ℕ → Book) → Plan → Book
carried n p books (numbered i) = books i
carried n p books (relay t u) = join n p (carried n p books t) (carried n p books u)

-- lawful books of one opening with no split between any two of them
abbrev pub AllRelated : ℕ → ℕ → (ℕ → Book) → Type 0
AllRelated n p books = (i j : ℕ) → Related n p (books i) (books j)

-- Grouping, order and repetition are of no consequence: two plans that name the same books give one book.
abbrev pub AnyPlan : Type 0
AnyPlan =
    (n p : ℕ) (books : ℕ → Book) → AllRelated n p books → (t u : Plan) → SameNames t u → carried n p books t ≡ carried n p books u

-- And each relay of a plan is a join as the laws have it: it meets no split, and what comes out is lawful.
abbrev pub PlansJoin : Type 0
PlansJoin =
    (n p : ℕ) (books : ℕ → Book) → AllRelated n p books → (t u : Plan) → Joins n p (carried n p books t) (carried n p books u)

-- what a plan leaves of files
abbrev pub taken_by_plan : (ℕ → List ℕ) → Plan → List ℕ
taken_by_plan files (numbered i) = files i
taken_by_plan files (relay t u) = taken (taken_by_plan files t) (taken_by_plan files u)

-- readable files that meet neither 30 nor 31 with each other
pub record AllJoinable (files : ℕ → List ℕ) : Type 0 where
  pub of_bytes : (i : ℕ) → Octets (files i)
  pub meet_none : (i j : ℕ) → join_answer (files i) (files j) ≡ 0

-- On bytes: two plans that name the same files leave the same bytes.
abbrev pub AnyFilePlan : Type 0
AnyFilePlan = (files : ℕ → List ℕ) → AllJoinable files → (t u : Plan) → SameNames t u → taken_by_plan files t ≡ taken_by_plan files u

-- And no relay of a plan meets a refusal of the join; what comes out is readable.
abbrev pub FilePlansJoin : Type 0
FilePlansJoin = (files : ℕ → List ℕ) → AllJoinable files → (t u : Plan) → FileJoins (taken_by_plan files t) (taken_by_plan files u)
