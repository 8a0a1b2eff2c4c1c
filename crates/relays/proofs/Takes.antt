-- Takes in any grouping: the join that a desk is left with is never behind in its own row, so no take is refused.
-- Assumes nothing.
use Prim.Native.Nat.{ℕ, suc, ◌<◌}
use mathlib.Core.Path.{◌≡◌, refl, ap, sym, subst, ◌∙◌}
use mathlib.Core.Bool.{Bool, false, cond}
use mathlib.Core.List.{List}
use borrow.Author.Tests.{eq-eqb}
use Rattle.rules.specs.Numbers.{Octets}
use Rattle.rules.specs.Loops.{◌and◌}
use Rattle.rules.specs.Layout.{columns, desks, piles, pile_number}
use Rattle.rules.specs.Rows.{is_copy_later, compared}
use Rattle.rules.specs.Take.{row_part, row_answer, take_answer, after_take}
use Rattle.rules.proofs.Loops.Logic.{and_true}
use Rattle.rules.proofs.Loops.Refusals.{when_done, or_else_rest, when_accepted}
use Rattle.rules.proofs.File.LawfulBook.{Frame}
use Rattle.rules.proofs.Take.Order.{at_least_transitive}
use Rattle.rules.proofs.Take.InPlace.{taker_known, rows_pass}
use Rattle.relays.specs.Join.{Book, row, join_row, join}
use Rattle.relays.specs.Laws.{Related}
use Rattle.relays.specs.Files.{book_of, file}
use Rattle.relays.specs.FileLaws.{Relayed, Relays}
use Rattle.relays.proofs.Rows.{above, picked, bound}
use Rattle.relays.proofs.Join.{row_of_join, commutative, associative, joins}
use Rattle.relays.proofs.Checked.{Checked, checked_exchanged, checked_join, checked_to_join}
use Rattle.relays.proofs.Written.{taken_join, take_done}
use Rattle.relays.proofs.Read.{frame, rows_compared, checked, under_first, as_files}
use Rattle.relays.proofs.Files.{take_meets_none}

-- desk d is not behind: on every pile its own row in the first book is at least that in the second
abbrev Ahead : ℕ → ℕ → ℕ → Book → Book → Type 0
Ahead n p d a b = (k : ℕ) → k < p → above n (row a k d) (row b k d)

module _ (n p d : ℕ) (d<n : d < n) where
  -- a desk that is not behind another book stays so when it joins a third, and is not behind the join of two books that it is not behind
  ahead_joined : (a b c : Book) → Related n p a b → Ahead n p d a c → Ahead n p d (join n p a b) c
  ahead_joined a b c ab ac k l = at_least_transitive (columns n) _ _ _ ((joins n p a b ab).above_first.rows k d l d<n) (ac k l)

  ahead_of_join : (a b c : Book) → Ahead n p d a b → Ahead n p d a c → Ahead n p d a (join n p b c)
  ahead_of_join a b c ab ac k l =
      subst (above n (row a k d)) (sym (row_of_join n p b c k d l d<n)) (picked n (above n (row a k d)) (ab k l) (ac k l))

-- where a take was accepted its desk was not behind
accepted_ahead : (d : ℕ) (a b : List ℕ) → Octets a → Octets b → take_answer d a b ≡ 0 → Ahead (desks a) (piles a) d (book_of a) (book_of b)
unfolding row_answer join_row
accepted_ahead d a b oa ob e k l =
    let met = take_meets_none d a b e in
    let known = taker_known d a b e in
    let rows = compared (row_part a k (suc d)) (row_part b k (suc d)) in
    let not_later : is_copy_later rows ≡ false
    = sym (and_true (is_copy_later rows)) ∙ ap (λ (t : Bool). is_copy_later rows and t) (sym (eq-eqb d d refl)) ∙ when_done _ _ (or_else_rest _ _ (rows_pass d a b e k d l known)) in
    let x = row (book_of a) k d in
    let y = row (book_of b) k d in
    subst (λ (later : Bool). above (desks a) (cond later y x) y) (ap is_copy_later (rows_compared a b met oa ob k d l known) ∙ not_later)
    (bound (desks a) x y ((checked a b met oa ob).related.no_split k d l known)).copy

module _ (n p : ℕ) (pile_numbers : ℕ → ℕ) (frame : Frame n p pile_numbers) where
  abbrev at : Book → List ℕ
  at a = file n p pile_numbers a

  -- a take of desk d that is accepted, and what it leaves
  module _ (d : ℕ) (d<n : d < n) (a b : Book) (ab : Checked n p a b) (ahead : Ahead n p d a b) where
    accepts : take_answer d (at a) (at b) ≡ 0
    accepts = take_done n p pile_numbers frame a b ab d d<n ahead

    leaves : after_take d (at a) (at b) ≡ at (join n p a b)
    unfolding after_take
    leaves = when_accepted _ _ _ accepts ∙ taken_join n p pile_numbers frame a b ab

  written_relays : (d e : ℕ) (a b c : Book) → d < n → e < n → Checked n p a b → Checked n p b c → Checked n p a c
      → Ahead n p d a b → Ahead n p d a c → Ahead n p e b c → Relayed d e (at a) (at b) (at c)
  written_relays d e a b c d<n e<n ab bc ac b-behind c-behind c-behind-at-e =
      let cb = checked_exchanged n p bc in
      let two-c = checked_join n p ab bc ac in
      let two-b = checked_join n p ac cb ab in
      let a-two = checked_to_join n p ab bc ac in
      let ahead-c = ahead_joined n p d d<n a b c ab.related c-behind in
      let ahead-b = ahead_joined n p d d<n a c b ac.related b-behind in
      let ahead-two = ahead_of_join n p d d<n a b c b-behind c-behind in
      let after-b = leaves d d<n a b ab b-behind in
      let after-c = leaves d d<n a c ac c-behind in
      let at-e = leaves e e<n b c bc c-behind-at-e in
      let b_then_c : after_take d (after_take d (at a) (at b)) (at c) ≡ at (join n p (join n p a b) c)
      = ap (λ (x : List ℕ). after_take d x (at c)) after-b ∙ leaves d d<n (join n p a b) c two-c ahead-c in
      let c_then_b : after_take d (after_take d (at a) (at c)) (at b) ≡ at (join n p (join n p a c) b)
      = ap (λ (x : List ℕ). after_take d x (at b)) after-c ∙ leaves d d<n (join n p a c) b two-b ahead-b in
      let at_once : after_take d (at a) (after_take e (at b) (at c)) ≡ at (join n p a (join n p b c))
      = ap (after_take d (at a)) at-e ∙ leaves d d<n a (join n p b c) a-two ahead-two in
      record {
        c_after_b = subst (λ (x : List ℕ). take_answer d x (at c) ≡ 0) (sym after-b) (accepts d d<n (join n p a b) c two-c ahead-c);
        b_after_c = subst (λ (x : List ℕ). take_answer d x (at b) ≡ 0) (sym after-c) (accepts d d<n (join n p a c) b two-b ahead-b);
        both_at_once = subst (λ (x : List ℕ). take_answer d (at a) x ≡ 0) (sym at-e) (accepts d d<n a (join n p b c) a-two ahead-two);
        same_in_turn =
            b_then_c
            ∙ ap at (associative n p a b c ab.related bc.related ac.related
            ∙ ap (join n p a) (commutative n p b c bc.related)
            ∙ sym (associative n p a c b ac.related cb.related ab.related))
            ∙ sym c_then_b;
        same_at_once = b_then_c ∙ ap at (associative n p a b c ab.related bc.related ac.related) ∙ sym at_once;
      }

-- Where desk d's takes of b and of c are accepted, and desk e's take of c into b, their grouping and order are of no consequence to desk d.
pub relays : Relays
relays d e a b c oa ob oc ab ac bc =
    let ab-met = take_meets_none d a b ab in
    let ac-met = take_meets_none d a c ac in
    let bc-met = take_meets_none e b c bc in
    as_files (Relayed d e) a b c oa ob oc ab-met ac-met
    (written_relays (desks a) (piles a) (pile_number a) (frame a b ab-met oa ob) d e (book_of a) (book_of b) (book_of c) (taker_known d a b ab)
    (under_first (λ n p. e < n) a b ab-met (taker_known e b c bc))
    (checked a b ab-met oa ob) (under_first (λ n p. Checked n p (book_of b) (book_of c)) a b ab-met (checked b c bc-met ob oc)) (checked a c ac-met oa oc)
    (accepted_ahead d a b oa ob ab) (accepted_ahead d a c oa oc ac) (under_first (λ n p. Ahead n p e (book_of b) (book_of c)) a b ab-met (accepted_ahead e b c ob oc bc)))
