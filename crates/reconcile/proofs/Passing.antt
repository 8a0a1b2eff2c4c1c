-- A step of the walk as one of the two lists has it: its own number is passed, or the other's, or one that both have.
-- Assumes nothing.
use Prim.Native.Nat.{ℕ, ◌+◌, ◌<◌}
use native.Mathlib.Nat.{eq-or-lt_of_le}
use native.Mathlib.Omega.{arith}
use mathlib.Core.Path.{◌≡◌, refl, ap, ap₂, sym, ◌∙◌}
use mathlib.Core.Bool.{Bool, true, false, cond, not}
use mathlib.Core.Logic.{⊎_elim}
use mathlib.Core.List.{List}
use lib.ListN.{length}
use Rattle.rules.specs.Loops.{◌and◌, one_if, count}
use Rattle.rules.proofs.Loops.Logic.{and_left_holds, and_left_fails}
use Rattle.rules.proofs.Loops.Counts.{count_next}
use Rattle.ticket.specs.declared.Ticket.{Ticket}
use Rattle.reconcile.specs.Counts.{ticket_at, number_at, same_ticket, has}
use Rattle.reconcile.specs.Laws.{RisingList}
use Rattle.reconcile.specs.Inner.{next_number, PassedTickets}
use Rattle.reconcile.proofs.Rising.{present, next_inside, above, at_most_end, below_end, next_above, absent, shared}

-- one place more, counted where the test holds there
count_here : {c : ℕ} (k : ℕ) (t : ℕ → Bool) (here : Bool) → c ≡ count k t → t k ≡ here → cond here (c + 1) c ≡ count (k + 1) t
count_here {c} k t here so_far e = sym (count_next k t ∙ ap₂ (λ (n : ℕ) (b : Bool). n + one_if b) (sym so_far) e ∙ added here)
  where
    added : (b : Bool) → c + one_if b ≡ cond b (c + 1) c
    added true = refl
    added false = omega arith

-- what holds of the first k places and of the next one
one_more : (P : ℕ → Type 0) (k : ℕ) → ((i : ℕ) → i < k → P i) → P k → (i : ℕ) → i < k + 1 → P i
one_more P k before here i less = ⊎_elim (λ e. rw e here) (before i) (eq-or-lt_of_le (omega arith))

module _ {l m : List Ticket} (listed : RisingList l) (listed' : RisingList m) {j k alike differing only : ℕ} (p : PassedTickets l m j k alike differing only) where
  -- the own number is below the other's: it is in the own list alone
  pub pass_own : ((i : ℕ) → i < k → number_at m i < next_number l j) → next_number l j < next_number m k → PassedTickets l m (j + 1) k alike differing (only + 1)
  pass_own before less =
      let here = next_inside l j (below_end l j (omega (arith, at_most_end listed' k))) in
      let not_there = absent listed' k (number_at l j) (λ i b. omega (arith, here, before i b)) (omega (arith, here)) in
      record {
        below = one_more (λ i. number_at l i < next_number m k) j p.below (omega (arith, here));
        alike_is = count_here j _ false p.alike_is (and_left_fails not_there _);
        differing_is = count_here j _ false p.differing_is (and_left_fails not_there _);
        only_is = count_here j _ true p.only_is (ap not not_there);
      }

  -- the other's number is below the own: nothing is to be counted here
  pub pass_other : next_number m k < next_number l j → PassedTickets l m j (k + 1) alike differing only
  pass_other less =
      let inside = below_end m k (omega (arith, at_most_end listed j)) in
      record {
        below = λ i b. omega (arith, next_inside m k inside, p.below i b, next_above listed' k (k + 1) (omega arith) inside);
        alike_is = p.alike_is;
        differing_is = p.differing_is;
        only_is = p.only_is;
      }

  -- both lists have the number
  pub pass_both : j < length l → k < length m → next_number l j ≡ next_number m k → (same : Bool) → same_ticket (ticket_at l j) (ticket_at m k) ≡ same
      → PassedTickets l m (j + 1) (k + 1) (cond same (alike + 1) alike) (cond (not same) (differing + 1) differing) only
  pass_both inside inside' e same told =
      let number : number_at l j ≡ number_at m k = sym (next_inside l j inside) ∙ e ∙ next_inside m k inside' in
      let there : has m (number_at l j) ≡ true = ap (has m) number ∙ present m k inside' in
      let shares-it = shared listed listed' j k inside inside' number ∙ told in
      let above-it = next_above listed' k (k + 1) (omega arith) inside' in
      record {
        below =
            one_more (λ i. number_at l i < next_number m (k + 1)) j (λ i b. omega (arith, above listed i j b inside, number, above-it))
            (omega (arith, number, above-it));
        alike_is = count_here j _ same p.alike_is (ap₂ ◌and◌ there shares-it ∙ sym (and_left_holds refl same));
        differing_is = count_here j _ (not same) p.differing_is (ap₂ (λ (a b : Bool). a and not b) there shares-it ∙ sym (and_left_holds refl (not same)));
        only_is = count_here j _ false p.only_is (ap not there);
      }
