-- Books and files that the laws speak of, computed, so that a narrower claim would be noticed: two books whose numbers are over the limits of 5 and 6; books of nine desks
-- and 33 piles; and files that desks may take.
-- Assumes nothing.
use Prim.Native.Nat.{ℕ, zero, suc, ◌<◌}
use mathlib.Core.Path.{◌≡◌, refl, ap, ap₂, sym, subst, ◌∙◌}
use mathlib.Core.Bool.{Bool, true, not}
use mathlib.Core.List.{List, [], ◌∷◌}
use lib.Dec.{lit<, ltb}
use borrow.Author.Tests.{ltb-true, not-true}
use Rattle.rules.specs.Numbers.{Octets}
use Rattle.rules.specs.Loops.{◌and◌, every}
use Rattle.rules.specs.Rows.{is_split}
use Rattle.rules.specs.Take.{take_answer}
use Rattle.rules.proofs.Loops.Logic.{and_left, and_right}
use Rattle.rules.proofs.Loops.Every.{every_at}
use Rattle.rules.proofs.Loops.Pieces.{length_list, getD_list}
use Rattle.rules.proofs.Cases.Table.{open_loops, open_refusals, open_numbers, open_pile, open_layout, open_rows, open_opening, open_book, open_take}
use Rattle.relays.specs.Join.{Body, Book, desk_row, body_in, order}
use Rattle.relays.specs.Laws.{LawfulBody, LawfulBook, Related}
use Rattle.relays.specs.Files.{file, join_answer}
use Rattle.relays.specs.Plans.{AllRelated, AllJoinable}
use Rattle.relays.proofs.Bodies.{repeated, unlimited, less_lawful, more_lawful, first_tipped, last_tipped, first_lawful, last_lawful}

body_repeated : (p : ℕ) (x : Body) (k : ℕ) → k < p → body_in (repeated p x) k ≡ x
body_repeated p x k l = getD_list p _ _ k l

-- no row of two bodies is split, as it is computed
abbrev WholeRows : ℕ → Body → Body → Type 0
WholeRows n x y = every n (λ i. not (is_split (order n (desk_row x i) (desk_row y i)))) ≡ true

related_bodies : (n p : ℕ) (x y : Body) → LawfulBody n x → LawfulBody n y → x.opening ≡ y.opening → WholeRows n x y → Related n p (repeated p x) (repeated p y)
related_bodies n p x y lawful-x lawful-y opening whole =
    record {
      first = lawful_book x lawful-x;
      second = lawful_book y lawful-y;
      opening = λ k l. ap (λ (z : Body). z.opening) (body_repeated p x k l) ∙ opening ∙ sym (ap (λ (z : Body). z.opening) (body_repeated p y k l));
      no_split = λ k i l m.
          ap₂ (λ (z w : Body). is_split (order n (desk_row z i) (desk_row w i))) (body_repeated p x k l) (body_repeated p y k l)
          ∙ not-true _ (every_at n _ whole i m);
    }
  where
    lawful_book : (x : Body) → LawfulBody n x → LawfulBook n p (repeated p x)
    lawful_book x lawful = record { piles = length_list p _; bodies = λ k l. subst (LawfulBody n) (sym (body_repeated p x k l)) lawful }

-- numbers over the limits
pub less_beside_more : Related 1 1 (repeated 1 (unlimited 2000000000)) (repeated 1 (unlimited 3000000000))
unfolding open_loops open_rows
less_beside_more = related_bodies 1 1 (unlimited 2000000000) (unlimited 3000000000) less_lawful more_lawful refl refl

-- nine desks and 33 piles: the first desk tipped, and in all books after the first one the last desk
abbrev pub wide_books : ℕ → Book
wide_books zero = repeated 33 first_tipped
wide_books (suc i) = repeated 33 last_tipped

pub wide_related : AllRelated 9 33 wide_books
unfolding open_loops open_rows
wide_related zero zero = related_bodies 9 33 first_tipped first_tipped first_lawful first_lawful refl refl
wide_related zero (suc j) = related_bodies 9 33 first_tipped last_tipped first_lawful last_lawful refl refl
wide_related (suc i) zero = related_bodies 9 33 last_tipped first_tipped last_lawful first_lawful refl refl
wide_related (suc i) (suc j) = related_bodies 9 33 last_tipped last_tipped last_lawful last_lawful refl refl

-- files of two desks and one pile: floor 0, top 1,000, to each desk a tip share of 500, of which they tipped so much
abbrev tipped_file : ℕ → ℕ → List ℕ
tipped_file t u =
    file 2 1 suc
    (record { opening = 0 ∷ 1000 ∷ 0 ∷ 0 ∷ 500 ∷ 500 ∷ []; rows = (t ∷ 0 ∷ 0 ∷ 0 ∷ 0 ∷ 0 ∷ []) ∷ (u ∷ 0 ∷ 0 ∷ 0 ∷ 0 ∷ 0 ∷ []) ∷ [] }
    ∷ [])

-- desk 0's own, and two that desk 1 made one after the other
abbrev pub own_file : List ℕ
own_file = tipped_file 5 0

abbrev pub old_copy : List ℕ
old_copy = tipped_file 0 7

abbrev pub new_copy : List ℕ
new_copy = tipped_file 0 255

-- bytes, computed
abbrev are_bytes : List ℕ → Bool
are_bytes [] = true
are_bytes (x ∷ b) = ltb x 256 and are_bytes b

all_bytes : (b : List ℕ) → are_bytes b ≡ true → Octets b
all_bytes [] e k = lit< tt
all_bytes (x ∷ b) e zero = ltb-true _ _ (and_left _ _ e)
all_bytes (x ∷ b) e (suc k) = all_bytes b (and_right _ _ e) k

pub own_bytes : Octets own_file
unfolding file open_loops open_numbers open_layout
own_bytes = all_bytes own_file refl

pub old_bytes : Octets old_copy
unfolding file open_loops open_numbers open_layout
old_bytes = all_bytes old_copy refl

pub new_bytes : Octets new_copy
unfolding file open_loops open_numbers open_layout
new_bytes = all_bytes new_copy refl

-- desk 0 may take either copy, and desk 1 the old one into the new one
pub takes_accepted : (take_answer 0 own_file new_copy ≡ 0) × (take_answer 0 own_file old_copy ≡ 0) × (take_answer 1 new_copy old_copy ≡ 0)
unfolding file open_loops open_refusals open_numbers open_pile open_layout open_rows open_opening open_book open_take
takes_accepted = (refl, refl, refl)

-- and the two may be joined in any plan
abbrev pub two_files : ℕ → List ℕ
two_files zero = own_file
two_files (suc i) = new_copy

pub two_joinable : AllJoinable two_files
unfolding join_answer file open_loops open_refusals open_numbers open_pile open_layout open_rows open_opening open_book open_take
two_joinable = record { of_bytes = of_bytes; meet_none = meet_none }
  where
    of_bytes : (i : ℕ) → Octets (two_files i)
    of_bytes zero = own_bytes
    of_bytes (suc i) = new_bytes

    meet_none : (i j : ℕ) → join_answer (two_files i) (two_files j) ≡ 0
    meet_none zero zero = refl
    meet_none zero (suc j) = refl
    meet_none (suc i) zero = refl
    meet_none (suc i) (suc j) = refl
