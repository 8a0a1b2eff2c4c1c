-- The book as a replica, and so demand 3's claim for the book; then what a desk's own book tells of all acts made (1/12).
-- The answers and books are those that code on books is held to.
-- Assumes nothing.
use Rattle.std.specs.Prelude.{ℕ, ◌≤◌, ◌<◌, ◌≡◌, ◌↔◌, List, ◌∷◌, length}
use Rattle.history.specs.Replica.{Replica, Call, take, Valid}
use Rattle.history.specs.Books.{books}
use Rattle.history.specs.Made.{global}
use Rattle.history.specs.Ledger.{ledger}
use Rattle.history.specs.Claim.{Demand3}
use Rattle.history.specs.Guarantees.{Guarantees, ◌⊆◌}
use Rattle.rules.specs.Pile.{Side, tonnage, BetweenBounds}
use Rattle.rules.specs.Acts.{Act}
use Rattle.rules.specs.Layout.{desks, piles, pile_number, pile_of}
use Rattle.rules.specs.Opening.{Opens, opened}
use Rattle.rules.specs.Book.{act_answer, after_act}
use Rattle.rules.specs.Take.{take_answer, after_take, take_report}
use Rattle.rules.specs.Bounds.{least, most}

abbrev pub book : Replica
book =
    record {
      State = List ℕ;
      Act = Act;
      act_answer = act_answer;
      after_act = after_act;
      take_answer = take_answer;
      after_take = after_take;
    }

-- every pile is between its floor and its top
abbrev pub Within : List ℕ → Type 0
Within b = (k : ℕ) → k < piles b → BetweenBounds (desks b) (pile_of b k)

-- Demand 3, for every book that an opening writes and every list of calls of its n desks.
abbrev pub BookDemand3 : Type 0
BookDemand3 = (n p : ℕ) (l : List ℕ) → Opens n p l → Demand3 book n Within (opened n p l)

-- and so the session guarantees, and convergence
abbrev pub BookGuarantees : Type 0
BookGuarantees = (n p : ℕ) (l : List ℕ) → Opens n p l → Guarantees book n (opened n p l)

-- x tonnes are possible on pile k, by desk d's line of its own book: from its least to its most
abbrev pub Possible : ℕ → List ℕ → ℕ → ℕ → Type 0
Possible d own k x = (least (desks own) (pile_of own k) d ≤ x) × (x ≤ most (desks own) (pile_of own k) d)

abbrev pub tonnage_of : List ℕ → ℕ → ℕ
tonnage_of b k = tonnage (desks b) (pile_of b k)

-- on each pile of desk d's own book, what another book has is possible
abbrev pub Between : ℕ → List ℕ → List ℕ → Type 0
Between d own all =
    (k : ℕ) → k < piles own → (pile_number all k ≡ pile_number own k) × Possible d own k (tonnage_of all k)

-- Between: at every moment of every history, by all acts made until then each pile has a tonnage from least to most of every desk's own book of that
-- moment, on that desk's line.
abbrev pub BookBetween : Type 0
BookBetween =
    (n p : ℕ) (l : List ℕ) → Opens n p l → (h : List (Call Act)) → Valid n h
    → (m d : ℕ) → m ≤ length h → d < n → Between d (books book (opened n p l) h m d) (global book n (opened n p l) h m)

-- no tally of a book is over a limit
abbrev pub TalliesUpTo : ℕ → List ℕ → Type 0
TalliesUpTo limit b =
    (k i : ℕ) → k < piles b → i < desks b → (s : Side)
    → ((pile_of b k).earned s i ≤ limit) × ((j : ℕ) → j < desks b → (pile_of b k).give s i j ≤ limit)

-- a list of calls that leaves desk d with the book `own`, and by all acts made pile k with x tonnes
pub record Reached (n : ℕ) (start : List ℕ) (d : ℕ) (own : List ℕ) (k x : ℕ) : Type 0 where
  pub calls : List (Call Act)
  pub valid : Valid n calls
  pub own_book : books book start calls (length calls) d ≡ own
  pub same_pile : pile_number (global book n start calls (length calls)) k ≡ pile_number own k
  pub tonnage_is : tonnage_of (global book n start calls (length calls)) k ≡ x

-- Reached: after every history, where no tally of desk d's newest book is over 990,000,000, each possible tonnage of each pile comes up: some list of
-- calls from the same opening ends with that same book of desk d, and with that tonnage by all acts made.
abbrev pub BookReached : Type 0
BookReached =
    (n p : ℕ) (l : List ℕ) → Opens n p l → (h : List (Call Act)) → Valid n h → (d : ℕ) → d < n
    → let own = books book (opened n p l) h (length h) d in
    TalliesUpTo 990000000 own → (k x : ℕ) → k < piles own → Possible d own k x → Reached n (opened n p l) d own k x

-- What a report of 0 says (5/12): in every history, a take reports 0 exactly when the copy holds no act that the taker did not hold already.
abbrev pub NothingNew : Type 0
NothingNew =
    (n p : ℕ) (l : List ℕ) → Opens n p l → (h : List (Call Act)) (d e m : ℕ) → Valid n (take d e m ∷ h)
    → let start = opened n p l in
    (take_report d (books book start h (length h) d) (books book start h m e) ≡ 0)
    ↔ (ledger book start h m e ⊆ ledger book start h (length h) d)
