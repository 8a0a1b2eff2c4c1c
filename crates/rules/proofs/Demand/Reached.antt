-- Reached (1/12): after a desk's own book the others can draw, or tip, until no right of that side is left but the desk's own. So every tonnage from its
-- least to its most comes up, and by `unheard` there is a history in which the desk has heard of none of it.
-- Assumes nothing.
use Prim.Native.Nat.{ℕ, ◌+◌, ◌-◌, ◌≤◌, ◌<◌}
use native.Mathlib.Decide.{dec_le}
use native.Mathlib.Omega.{arith}
use mathlib.Core.Path.{◌≡◌, sym, ◌∙◌}
use mathlib.Core.Logic.{by_cases}
use mathlib.Core.List.{List}
use lib.ListN.{length}
use Rattle.history.proofs.Laws.{run, Entered}
use Rattle.history.proofs.Sequential.{entered_run}
use Rattle.history.proofs.Unheard.{Beyond, unheard}
use Rattle.rules.specs.Pile.{Side, draw, tip, Pile, rights, tonnage, tally_limit}
use Rattle.rules.specs.Acts.{Act}
use Rattle.rules.specs.Layout.{head_for, book_length, book_bytes}
use Rattle.rules.specs.Opening.{given, given_pile, opened}
use Rattle.rules.specs.Bounds.{least, most}
use Rattle.rules.specs.Demand.{book, Possible, TalliesUpTo, Reached, BookReached}
use Rattle.rules.proofs.Loops.Sums.{term_le}
use Rattle.rules.proofs.Pile.Facts.{PileFacts}
use Rattle.rules.proofs.Pile.Tonnage.{tonnage_floor, tonnage_top, tonnage_within}
use Rattle.rules.proofs.Pile.Agree.{rights_cong, tonnage_cong}
use Rattle.rules.proofs.File.Written.{open_head}
use Rattle.rules.proofs.File.LawfulBook.{Frame, written_number, written_pile, Lawful}
use Rattle.rules.proofs.File.Opened.{accepted_facts, opened_lawful}
use Rattle.rules.proofs.Demand.Grown.{grown}
use Rattle.rules.proofs.Demand.Runs.{runs}
use Rattle.rules.proofs.Demand.BookLaws.{book_laws, opened_laws}
use Rattle.rules.proofs.Demand.Spent.{spent}

module _ (n p : ℕ) (numbers : ℕ → ℕ) (frame : Frame n p numbers) (start : ℕ → Pile) (lawful : Lawful n p start) (d : ℕ) (d<n : d < n)
    (es : List (ℕ × Act)) (ran : Entered book n (book_bytes n p numbers start) es) (k : ℕ) (k<p : k < p) (x : ℕ) where
  abbrev begun : List ℕ
  begun = book_bytes n p numbers start

  abbrev after : List (ℕ × Act) → Pile
  after fs = grown p numbers start fs k

  abbrev own : Pile
  own = after es

  after_facts : (fs : List (ℕ × Act)) → Entered book n begun fs → PileFacts n (after fs)
  after_facts fs ran' = (runs n p numbers frame start lawful fs ran').1 k k<p

  -- the history of acts beyond desk d's book that leave the pile with x
  history_of : (fs : List (ℕ × Act)) → Beyond d es fs → Entered book n begun fs → tonnage n (after fs) ≡ x
      → Reached n begun d (run book begun es) k x
  unfolding open_head
  history_of fs beyond ran' is =
      let (h, v, mine, all) = unheard (book_laws n p numbers frame start lawful) d d<n beyond ran' in
      let before = runs n p numbers frame start lawful es ran in
      let then = runs n p numbers frame start lawful fs ran' in
      record {
        calls = h;
        valid = v;
        own_book = mine;
        same_pile = rw (all, then.0, before.0) (written_number n p numbers frame _ k k<p ∙ sym (written_number n p numbers frame _ k k<p));
        tonnage_is = rw (all, then.0) (tonnage_cong n _ _ (written_pile n p numbers frame _ then.1 k k<p) ∙ is);
      }

  module _ (limit : (s : Side) (i : ℕ) → i < n → own.earned s i ≤ 990000000) where
    facts : PileFacts n own
    facts = after_facts es ran

    -- no more tonnes are missing than the top has, so each tally has room for them
    room : (s : Side) (j : ℕ) → j ≤ own.top → (i : ℕ) → i < n → own.earned s i + j ≤ tally_limit
    room s j few i l = omega (arith, limit s i l, facts.opening.top_limit_lem)

    lowered : least n own d ≤ x → x ≤ tonnage n own → Reached n begun d (run book begun es) k x
    unfolding least
    lowered low high =
        let all = tonnage_floor n own facts in
        let t = spent n p numbers frame start lawful k k<p draw d d<n es ran (tonnage n own - x) (x - own.floor) (omega arith) (omega arith)
        (room tip (tonnage n own - x) (omega (arith, (tonnage_within n own facts).1))) in
        history_of t.acts t.beyond t.ran
        (omega (arith, tonnage_floor n (after t.acts) (after_facts t.acts t.ran), t.left))

    raised : tonnage n own ≤ x → x ≤ most n own d → Reached n begun d (run book begun es) k x
    unfolding most
    raised low high =
        let all = tonnage_top n own facts in
        let mine = term_le n d (rights n own tip) d<n in
        let t = spent n p numbers frame start lawful k k<p tip d d<n es ran (x - tonnage n own) (own.top - x) (omega arith) (omega arith)
        (room draw (x - tonnage n own) (omega arith)) in
        history_of t.acts t.beyond t.ran
        (omega (arith, tonnage_top n (after t.acts) (after_facts t.acts t.ran), t.left))

  reached : TalliesUpTo 990000000 (run book begun es) → Possible d (run book begun es) k x → Reached n begun d (run book begun es) k x
  unfolding open_head least most
  reached limit possible =
      let mine = runs n p numbers frame start lawful es ran in
      let a = written_pile n p numbers frame _ mine.1 k k<p in
      let few : (s : Side) (i : ℕ) → i < n → own.earned s i ≤ 990000000
      = λ s i l. rw (← a.earned s i l) ((rw mine.0 at limit) k i k<p l s).0 in
      let from-to = rw mine.0 at possible in
      let low : least n own d ≤ x = omega (arith, a.floor, rights_cong n _ _ a draw d d<n, from-to.0) in
      let high : x ≤ most n own d = omega (arith, a.top, rights_cong n _ _ a tip d d<n, from-to.1) in
      by_cases (dec_le x (tonnage n own)) (λ l. lowered few low l) (λ l. raised few (omega arith) high)

pub book_reached : BookReached
unfolding opened open_head
book_reached n p l accepted h v d d<n limit k x there possible =
    let frame = (accepted_facts n p l (book_length (head_for n p)) accepted).frame in
    let lawful = opened_lawful n p l (book_length (head_for n p)) accepted in
    let (es, ran, is) = entered_run (opened_laws n p l accepted) h v (length h) d in
    let k<p : k < p = rw (is ∙ (runs n p (λ k. given n l k 0) frame (given_pile n l) lawful es ran).0) at there in
    rw is (reached n p (λ k. given n l k 0) frame (given_pile n l) lawful d d<n es ran k k<p x (rw is at limit) (rw is at possible))
