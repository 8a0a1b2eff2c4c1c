-- The order of relays: the join of two books is their least upper bound, row by row, and the laws follow from that.
-- Assumes nothing.
use Prim.Native.Nat.{ℕ, ◌<◌}
use mathlib.Core.Path.{◌≡◌, refl, ap, ap₂, sym, subst, ◌∙◌}
use mathlib.Core.List.{List, []}
use lib.ListN.{length, get_or}
use lib.Seq.{ext_get_or}
use Rattle.rules.specs.Loops.{list}
use Rattle.rules.specs.Layout.{columns}
use Rattle.rules.specs.Rows.{is_split}
use Rattle.rules.proofs.Loops.Pieces.{length_list, getD_list, list_cong}
use Rattle.rules.proofs.Take.Order.{at_least_itself, at_least_transitive}
use Rattle.rules.proofs.Take.RowOrder.{LeastAbove, itself_alike}
use Rattle.relays.specs.Join.{Body, Book, desk_row, body_in, row, numbers, join_row, join_body, join}
use Rattle.relays.specs.Laws.{LawfulBody, LawfulBook, OneOpening, Above, AboveOrders, Joins, Related, OrderOfRelays}
use Rattle.relays.proofs.Rows.{above, Whole, picked, bound, antisymmetric, exchanged, row_idempotent}
use Rattle.relays.proofs.Lawful.{joined_row, joined_lawful}

-- a list is the list of what stands at its places
relisted : {A : Type 0} (d : A) (m : ℕ) (l : List A) → length l ≡ m → list m (λ k. get_or l k d) ≡ l
relisted d m l e = ext_get_or d _ l (length_list m _ ∙ sym e) (λ k k<m. getD_list m _ d k (subst (λ (m : ℕ). k < m) (length_list m _) k<m))

module _ (n p : ℕ) where
  -- the body of pile k in a join, and the row of desk i there
  pub body_of_join : (a b : Book) (k : ℕ) → k < p → body_in (join n p a b) k ≡ join_body n (body_in a k) (body_in b k)
  unfolding join
  body_of_join a b k l = getD_list p _ _ k l

  pub row_of_join : (a b : Book) (k i : ℕ) → k < p → i < n → row (join n p a b) k i ≡ join_row n (row a k i) (row b k i)
  row_of_join a b k i l m = ap (λ (x : Body). desk_row x i) (body_of_join a b k l) ∙ joined_row n _ _ i m

  opening_of_join : (a b : Book) → OneOpening p (join n p a b) a
  unfolding join_body
  opening_of_join a b k l = ap (λ (x : Body). x.opening) (body_of_join a b k l)

  -- a lawful book by its openings and rows
  abbrev bodies : (ℕ → List ℕ) → (ℕ → ℕ → List ℕ) → Book
  bodies openings rows = list p (λ k. record { opening = openings k; rows = list n (rows k) })

  same_bodies : {o o' : ℕ → List ℕ} {r r' : ℕ → ℕ → List ℕ} → ((k : ℕ) → k < p → o k ≡ o' k) → ((k i : ℕ) → k < p → i < n → r k i ≡ r' k i)
      → bodies o r ≡ bodies o' r'
  same_bodies openings rows =
      list_cong p (λ k l. ap₂ {C = Body} (λ (o : List ℕ) (r : List (List ℕ)). record { opening = o; rows = r }) (openings k l) (list_cong n (λ i m. rows k i l m)))

  by_bodies : (a : Book) → LawfulBook n p a → bodies (λ k. (body_in a k).opening) (row a) ≡ a
  by_bodies a lawful =
      list_cong p (λ k l. ap {B = Body} (λ (r : List (List ℕ)). record { opening = (body_in a k).opening; rows = r }) (relisted [] n (body_in a k).rows (lawful.bodies k l).desks))
      ∙ relisted _ p a lawful.piles

  -- `Above` is a partial order of lawful books of one opening
  pub above_reflexive : (a : Book) → Above n p a a
  above_reflexive a = record { rows = λ k i l m. at_least_itself (columns n) _ }

  pub above_transitive : {a b c : Book} → Above n p a b → Above n p b c → Above n p a c
  above_transitive ab bc = record { rows = λ k i l m. at_least_transitive (columns n) _ _ _ (ab.rows k i l m) (bc.rows k i l m) }

  pub above_antisymmetric : (a b : Book) → LawfulBook n p a → LawfulBook n p b → OneOpening p a b → Above n p a b → Above n p b a → a ≡ b
  above_antisymmetric a b lawful-a lawful-b opening ab ba =
      sym (by_bodies a lawful-a)
      ∙ same_bodies opening (λ k i l m. antisymmetric n ((lawful-a.bodies k l).rows i m) ((lawful-b.bodies k l).rows i m) (ab.rows k i l m) (ba.rows k i l m))
      ∙ by_bodies b lawful-b

  -- a row of the join as the joined row
  along : (a b : Book) (P : List ℕ → Type 0) (k i : ℕ) → k < p → i < n → P (join_row n (row a k i) (row b k i)) → P (row (join n p a b) k i)
  along a b P k i l m = subst P (sym (row_of_join a b k i l m))

  pub joins : (a b : Book) → Related n p a b → Joins n p a b
  unfolding join
  joins a b ab =
      let least : (k i : ℕ) → k < p → i < n → LeastAbove (columns n) (numbers (row a k i)) (numbers (row b k i)) (numbers (join_row n (row a k i) (row b k i)))
      = λ k i l m. bound n _ _ (ab.no_split k i l m) in
      record {
        no_split = ab.no_split;
        lawful =
            record {
              piles = length_list p _;
              bodies = λ k l. subst (LawfulBody n) (sym (body_of_join a b k l))
                  (joined_lawful n _ _ (ab.first.bodies k l) (ab.second.bodies k l) (ab.opening k l) (λ i m. ab.no_split k i l m));
            };
        opening = opening_of_join a b;
        above_first = record { rows = λ k i l m. along a b (λ r. above n r (row a k i)) k i l m (least k i l m).mine };
        above_second = record { rows = λ k i l m. along a b (λ r. above n r (row b k i)) k i l m (least k i l m).copy };
        least = λ x e d. record {
          rows = λ k i l m. along a b (above n (row x k i)) k i l m ((least k i l m).least _ (e.rows k i l m) (d.rows k i l m));
        };
      }

  -- lawful books of one opening with no split stay so: exchanged, each with itself, and two of them joined beside the third
  pub related_exchanged : {a b : Book} → Related n p a b → Related n p b a
  related_exchanged {a} {b} ab =
      record {
        first = ab.second;
        second = ab.first;
        opening = λ k l. sym (ab.opening k l);
        no_split = λ k i l m. exchanged n (row a k i) (row b k i) (ab.no_split k i l m);
      }

  pub related_itself : {a : Book} → LawfulBook n p a → Related n p a a
  related_itself lawful =
      record {
        first = lawful;
        second = lawful;
        opening = λ k l. refl;
        no_split = λ k i l m. ap is_split (itself_alike (columns n) _);
      }

  pub related_join : {a b c : Book} → Related n p a b → Related n p b c → Related n p a c → Related n p (join n p a b) c
  related_join {a} {b} {c} ab bc ac =
      record {
        first = (joins a b ab).lawful;
        second = ac.second;
        opening = λ k l. opening_of_join a b k l ∙ ac.opening k l;
        no_split = λ k i l m. along a b (λ r. Whole n r (row c k i)) k i l m
            (picked n (λ r. Whole n r (row c k i)) (ac.no_split k i l m) (bc.no_split k i l m));
      }

  related_to_join : {a b c : Book} → Related n p a b → Related n p b c → Related n p a c → Related n p a (join n p b c)
  related_to_join ab bc ac = related_exchanged (related_join bc (related_exchanged ac) (related_exchanged ab))

  -- the three laws: a least upper bound is the only one
  pub commutative : (a b : Book) → Related n p a b → join n p a b ≡ join n p b a
  commutative a b ab =
      let first = joins a b ab in
      let second = joins b a (related_exchanged ab) in
      above_antisymmetric (join n p a b) (join n p b a) first.lawful second.lawful (λ k l. first.opening k l ∙ ab.opening k l ∙ sym (second.opening k l))
      (second.least _ first.above_second first.above_first) (first.least _ second.above_second second.above_first)

  pub associative : (a b c : Book) → Related n p a b → Related n p b c → Related n p a c → join n p (join n p a b) c ≡ join n p a (join n p b c)
  associative a b c ab bc ac =
      let two = joins a b ab in
      let last = joins b c bc in
      let left = joins (join n p a b) c (related_join ab bc ac) in
      let right = joins a (join n p b c) (related_to_join ab bc ac) in
      above_antisymmetric _ _ left.lawful right.lawful (λ k l. left.opening k l ∙ two.opening k l ∙ sym (right.opening k l))
      (right.least _ (above_transitive left.above_first two.above_first)
      (last.least _ (above_transitive left.above_first two.above_second) left.above_second))
      (left.least _ (two.least _ right.above_first (above_transitive right.above_second last.above_first))
      (above_transitive right.above_second last.above_second))

  idempotent : (a : Book) → LawfulBook n p a → join n p a a ≡ a
  unfolding join join_body
  idempotent a lawful = same_bodies (λ k l. refl) (λ k i l m. row_idempotent n (row a k i)) ∙ by_bodies a lawful

pub above_orders : AboveOrders
above_orders n p = record { reflexive = above_reflexive n p; transitive = λ a b c. above_transitive n p; antisymmetric = above_antisymmetric n p }

-- The order of relays, for any number of desks and piles. In the field's words (source document 004): lawful books of one opening with no split between any two of them are
-- a join-semilattice, of which `Above` is the order and `join` the least upper bound. Its laws come from these facts about the rows of a desk:
-- * commutative and associative: the later or common row is the least upper bound of two rows that are not split (`latest_bound`), at least is transitive
--   (`at_least_transitive`), and two least upper bounds are at least each other and so one row (`antisymmetric`);
-- * idempotent: the joined row is one of the two (`picked`);
-- * no join meets a split: a row is alike to itself (`itself_alike`), what splits two rows splits them exchanged (`split_exchanged`), and the joined row, being one of the
--   two, is split with no third row that neither of them is split with (`picked`);
-- * lawful: what a desk spent stands in its own row, which is one of the two; what it was given stands in the other desks' rows, which have only grown (`Lawful`).
-- No number needs a limit for this; that the limits of 5 and 6 carry over where both books have them is `checks_carry_over` in Checked.
pub order_of_relays : OrderOfRelays
order_of_relays n p a b c ab bc ac =
    record {
      commutative = commutative n p a b ab;
      associative = associative n p a b c ab bc ac;
      idempotent = idempotent n p a ab.first;
      first_second = joins n p a b ab;
      second_first = joins n p b a (related_exchanged n p ab);
      second_third = joins n p b c bc;
      first_itself = joins n p a a (related_itself n p ab.first);
      two_with_third = joins n p (join n p a b) c (related_join n p ab bc ac);
      first_with_two = joins n p a (join n p b c) (related_to_join n p ab bc ac);
    }
