-- What a report of 0 says in a history (5/12): the copy holds no act that the taker did not hold already.
-- Assumes nothing.
use Prim.Native.Nat.{ℕ, suc}
use native.Mathlib.Nat.{le_refl, le_step}
use mathlib.Core.Path.{◌≡◌, refl, ap, sym, ◌∙◌}
use mathlib.Core.Logic.{◌↔◌, ⊎_elim}
use mathlib.Core.List.{List, ◌∷◌}
use lib.ListN.{length}
use borrow.Author.Tests.{lt-leb, eq-eqb}
use Rattle.history.specs.Replica.{Call, take, Valid}
use Rattle.history.specs.Books.{at, books}
use Rattle.history.specs.Ledger.{Acts, gained, ledger}
use Rattle.history.specs.Guarantees.{◌⊆◌}
use Rattle.history.specs.Claim.{Claim}
use Rattle.history.proofs.Sets.{left, right, or_split, equal_sets}
use Rattle.history.proofs.Moments.{past, past_state, next}
use Rattle.rules.specs.Acts.{Act}
use Rattle.rules.specs.Opening.{Opens, opened}
use Rattle.rules.specs.Take.{after_take, take_report}
use Rattle.rules.specs.Demand.{book, Within, NothingNew}
use Rattle.rules.proofs.Take.Report.{report_zero}
use Rattle.rules.proofs.Demand.BookLaws.{book_demand3}

-- desk d takes the copy that was made of desk e's book at moment m
module _ (n p : ℕ) (l : List ℕ) (accepted : Opens n p l)
    (h : List (Call Act)) (d e m : ℕ) (valid : Valid n (take d e m ∷ h)) where
  abbrev start : List ℕ
  start = opened n p l

  abbrev own : List ℕ
  own = books book start h (length h) d

  abbrev copy : List ℕ
  copy = books book start h m e

  abbrev held : Acts
  held = ledger book start h (length h) d

  abbrev brought : Acts
  brought = ledger book start h m e

  claim : Claim book n Within start (take d e m ∷ h)
  claim = book_demand3 n p l accepted (take d e m ∷ h) valid

  -- the taker's book and set before the take, and after it
  before_book : books book start (take d e m ∷ h) (length h) d ≡ own
  before_book = past_state book start (take d e m) h (length h) d (le_refl _)

  after_book : books book start (take d e m ∷ h) (suc (length h)) d ≡ after_take d own copy
  unfolding books at
  after_book = rw (lt-leb (suc (length h)) (length h) (le_refl _), eq-eqb d d refl)

  before_set : ledger book start (take d e m ∷ h) (length h) d ≡ held
  before_set = past book start (take d e m) h (length h) d (le_refl _)

  after_set : ledger book start (take d e m ∷ h) (suc (length h)) d ≡ gained held brought
  after_set = next book start (take d e m) h d ∙ rw (eq-eqb d d refl)

  same_book_lem : (own ≡ after_take d own copy) ↔ ((place : ℕ) → held place ≡ gained held brought place)
  same_book_lem =
      rw (before_book, after_book, before_set, after_set)
      at (claim.exact (length h) d (suc (length h)) d (le_step (le_refl _)) valid.0 (le_refl _) valid.0)

  exactly_then : (take_report d own copy ≡ 0) ↔ (brought ⊆ held)
  exactly_then =
      let zero = report_zero d own copy claim.taken.0 in (
        λ none q b. same_book_lem.0 (sym (zero.0 none)) q ∙ right held brought q b,
        λ sub. zero.1 (sym (same_book_lem.1 (λ q. ap (λ (S : Acts). S q)
            (equal_sets (left held brought) (λ q b. ⊎_elim (λ own. own) (sub q) (or_split (held q) b)))))),
      )

pub nothing_new : NothingNew
nothing_new = exactly_then
