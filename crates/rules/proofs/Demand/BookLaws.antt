-- The five laws of the book, and so demand 3: a desk's row depends on that desk's own acts alone, and grows with each.
-- Assumes nothing.
use Prim.Native.Nat.{ℕ, suc, ◌+◌, ◌<◌}
use native.Mathlib.Nat.{le_refl, add-le-add}
use mathlib.Core.Path.{◌≡◌, refl, ap, ap₂, sym, ◌∙◌}
use mathlib.Core.Logic.{⊎_map}
use mathlib.Core.List.{List}
use Rattle.history.proofs.Laws.{own, Ends, Longer, run, Entered, Laws}
use Rattle.history.proofs.Demand.{demand3}
use Rattle.history.proofs.Guarantees.{guarantees}
use Rattle.rules.specs.Pile.{draw, tip, Pile}
use Rattle.rules.specs.Acts.{Act}
use Rattle.rules.specs.Layout.{head_for, desks, pile_of, row_of, body_row, book_length, book_bytes}
use Rattle.rules.specs.Opening.{given, given_pile, Opens, opened}
use Rattle.rules.specs.Book.{book_answer}
use Rattle.rules.specs.Take.{take_answer, after_take}
use Rattle.rules.specs.Demand.{book, Within, BookDemand3, BookGuarantees}
use Rattle.rules.proofs.Pile.Facts.{facts}
use Rattle.rules.proofs.Pile.Tonnage.{within_bounds}
use Rattle.rules.proofs.File.Readable.{book_facts}
use Rattle.rules.proofs.File.LawfulBook.{Frame, written_readable, Lawful}
use Rattle.rules.proofs.File.Opened.{accepted_facts, opened_lawful}
use Rattle.rules.proofs.File.Refused.{act_refused}
use Rattle.rules.proofs.Take.MergeRow.{RowLe}
use Rattle.rules.proofs.Take.Merge.{Merged, take_accepted, take_merges}
use Rattle.rules.proofs.Demand.Grown.{added, added_ends, earns_at, gives_at, grown}
use Rattle.rules.proofs.Demand.Runs.{runs}
use Rattle.rules.proofs.Demand.Monotone.{monotone}
use Rattle.rules.proofs.Demand.EqualBooks.{equal}

-- every pile of a readable book is between its floor and its top
pub readable_within : (b : List ℕ) → book_answer b ≡ 0 → Within b
readable_within b e k l = within_bounds (desks b) (pile_of b k) (facts (desks b) (pile_of b k) ((book_facts b e).bodies k l))

-- an earlier stage of a desk's acts has no tally above a later one's
behind : (n p : ℕ) (numbers : ℕ → ℕ) (start : ℕ → Pile) (es fs : List (ℕ × Act)) (k i : ℕ) → Ends (own i fs) (own i es)
    → RowLe n (grown p numbers start fs k) (grown p numbers start es k) i
behind n p numbers start es fs k i e =
    record {
      earned = λ s. add-le-add (le_refl ((start k).earned s i)) (added_ends _ _ _ e);
      give = λ s j l. add-le-add (le_refl ((start k).give s i j)) (added_ends _ _ _ e);
    }

-- and the row depends on those acts alone
same_row : (n p : ℕ) (numbers : ℕ → ℕ) (start : ℕ → Pile) (es fs : List (ℕ × Act)) (k i : ℕ) → own i fs ≡ own i es
    → body_row n (grown p numbers start fs k) (suc i) ≡ body_row n (grown p numbers start es k) (suc i)
unfolding body_row
same_row n p numbers start es fs k i e =
    ap
    (λ (l : List Act). row_of n ((start k).earned draw i + added (earns_at p numbers k draw) l) ((start k).earned tip i + added (earns_at p numbers k tip) l)
    (λ s j. (start k).give s i j + added (gives_at p numbers k s j) l)) e

module _ (n p : ℕ) (numbers : ℕ → ℕ) (frame : Frame n p numbers) (start : ℕ → Pile) (lawful : Lawful n p start) where
  merged : (es fs gs : List (ℕ × Act)) → ((e : ℕ) → Longer (own e es) (own e fs) (own e gs)) → (k : ℕ)
      → Merged n (grown p numbers start es k) (grown p numbers start fs k) (grown p numbers start gs k)
  unfolding body_row
  merged es fs gs longer k =
      record {
        floor = refl;
        top = refl;
        share = λ s i l. refl;
        opening = refl;
        desk = λ i l. ⊎_map (λ h. (behind n p numbers start es fs k i h.0, same_row n p numbers start es gs k i h.1))
            (λ h. (behind n p numbers start fs es k i h.0, same_row n p numbers start fs gs k i h.1)) (longer i);
      }

  join : (d : ℕ) (es fs gs : List (ℕ × Act)) → d < n → Entered book n (book_bytes n p numbers start) es
      → Entered book n (book_bytes n p numbers start) fs → Entered book n (book_bytes n p numbers start) gs
      → ((e : ℕ) → Longer (own e es) (own e fs) (own e gs)) → Ends (own d fs) (own d es)
      → (take_answer d (run book (book_bytes n p numbers start) es) (run book (book_bytes n p numbers start) fs) ≡ 0)
      × (after_take d (run book (book_bytes n p numbers start) es) (run book (book_bytes n p numbers start) fs)
      ≡ run book (book_bytes n p numbers start) gs)
  join d es fs gs d<n ran ran' ran'' longer ends =
      let own-run = runs n p numbers frame start lawful es ran in
      let copy_run = runs n p numbers frame start lawful fs ran' in
      let ahead : (k : ℕ) → k < p → RowLe n (grown p numbers start fs k) (grown p numbers start es k) d
      = λ k _. behind n p numbers start es fs k d ends in (
        ap₂ (take_answer d) own-run.0 copy_run.0
            ∙ take_accepted n p numbers frame _ _ _ own-run.1 copy_run.1 (λ k _. merged es fs gs longer k) d d<n ahead,
        ap₂ (after_take d) own-run.0 copy_run.0
            ∙ take_merges n p numbers frame _ _ _ own-run.1 copy_run.1 (λ k _. merged es fs gs longer k) d d<n ahead
            ∙ sym (runs n p numbers frame start lawful gs ran'').0,
      )

  bounds : (es : List (ℕ × Act)) → Entered book n (book_bytes n p numbers start) es → Within (run book (book_bytes n p numbers start) es)
  bounds es ran =
      let r = runs n p numbers frame start lawful es ran in
      readable_within _ (ap book_answer r.0 ∙ written_readable n p numbers frame _ r.1)

  pub book_laws : Laws book n Within (book_bytes n p numbers start)
  book_laws =
      record {
        refused = act_refused;
        monotone = λ d a es fs d<n. monotone n p numbers frame start lawful d a es fs;
        join = join;
        equal = equal n p numbers frame start lawful;
        bounds = bounds;
      }

-- an opened book keeps the five laws
pub opened_laws : (n p : ℕ) (l : List ℕ) → Opens n p l → Laws book n Within (opened n p l)
unfolding opened
opened_laws n p l accepted =
    book_laws n p (λ k. given n l k 0) (accepted_facts n p l (book_length (head_for n p)) accepted).frame (given_pile n l)
    (opened_lawful n p l (book_length (head_for n p)) accepted)

-- Demand 3: for every book that an accepted opening writes, and every list of calls of its desks
pub book_demand3 : BookDemand3
book_demand3 n p l accepted = demand3 book n Within (opened n p l) (opened_laws n p l accepted)

-- and so the session guarantees, and convergence
pub book_guarantees : BookGuarantees
book_guarantees n p l accepted = guarantees (opened_laws n p l accepted)
