-- Between (1/12): a desk's own row is the same in the book that all acts make, and what it was given there is no less. So its rights there are no less,
-- its least no lower and its most no higher; and every book's own tonnage is between them.
-- Assumes nothing.
use Prim.Native.Nat.{ℕ, ◌<◌}
use native.Mathlib.Omega.{arith}
use mathlib.Core.Path.{◌≡◌, sym, ◌∙◌}
use mathlib.Core.List.{List}
use Rattle.history.proofs.Laws.{own, Ends, run, Entered}
use Rattle.history.proofs.Made.{always}
use Rattle.rules.specs.Pile.{draw, tip, Pile}
use Rattle.rules.specs.Acts.{Act}
use Rattle.rules.specs.Layout.{head_for, book_length, book_bytes}
use Rattle.rules.specs.Opening.{given, given_pile, opened}
use Rattle.rules.specs.Bounds.{least, most}
use Rattle.rules.specs.Demand.{book, Between, BookBetween}
use Rattle.rules.proofs.Pile.Agree.{rights_cong, tonnage_cong}
use Rattle.rules.proofs.File.Written.{open_head}
use Rattle.rules.proofs.File.LawfulBook.{Frame, written_number, written_pile, Lawful}
use Rattle.rules.proofs.File.Opened.{accepted_facts, opened_lawful}
use Rattle.rules.proofs.Pile.Bounds.{least_known, known_most}
use Rattle.rules.proofs.Demand.Grown.{grown}
use Rattle.rules.proofs.Demand.Runs.{runs}
use Rattle.rules.proofs.Demand.Monotone.{rights_grow}
use Rattle.rules.proofs.Demand.BookLaws.{opened_laws}

module _ (n p : ℕ) (numbers : ℕ → ℕ) (frame : Frame n p numbers) (start : ℕ → Pile) (lawful : Lawful n p start) where
  between : (d : ℕ) (es fs : List (ℕ × Act)) → d < n → Entered book n (book_bytes n p numbers start) es
      → Entered book n (book_bytes n p numbers start) fs → ((e : ℕ) → Ends (own e es) (own e fs)) → own d es ≡ own d fs
      → Between d (run book (book_bytes n p numbers start) es) (run book (book_bytes n p numbers start) fs)
  unfolding open_head least most
  between d es fs d<n ran ran' grew same =
      let mine = runs n p numbers frame start lawful es ran in
      let all = runs n p numbers frame start lawful fs ran' in
      rw (mine.0, all.0)
      (λ k l.
      let a = written_pile n p numbers frame (grown p numbers start es) mine.1 k l in
      let b = written_pile n p numbers frame (grown p numbers start fs) all.1 k l in
      let Q : Pile = grown p numbers start fs k in
      let more = rights_grow n p numbers start es fs k d grew same in (
        written_number n p numbers frame _ k l ∙ sym (written_number n p numbers frame _ k l),
        (
          omega (
            arith,
            a.floor,
            rights_cong n _ _ a draw d d<n,
            more draw,
            least_known n Q (all.1 k l) d d<n,
            tonnage_cong n _ _ b,
          ),
          omega (
            arith,
            a.top,
            rights_cong n _ _ a tip d d<n,
            more tip,
            known_most n Q (all.1 k l) d d<n,
            tonnage_cong n _ _ b,
          ),
        ),
      ))

pub book_between : BookBetween
unfolding opened
book_between n p l accepted =
    always (opened_laws n p l accepted) Between
    (between n p (λ k. given n l k 0) (accepted_facts n p l (book_length (head_for n p)) accepted).frame (given_pile n l)
    (opened_lawful n p l (book_length (head_for n p)) accepted))
