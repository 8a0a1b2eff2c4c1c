-- What the claims on relays say in plain terms, so that a weaker one would be noticed: of each of the six joins that the laws name, of books of any size and of files; of three
-- and more books in another order and grouping; of books of nine desks and 33 piles, and of numbers without limits; and of what desks that take them are left with.
-- Assumes nothing.
use Prim.Native.Nat.{ℕ, ◌≤◌, ◌<◌}
use native.Mathlib.Nat.{suc-ne-zero}
use mathlib.Core.Path.{◌≡◌, ap, sym, ◌∙◌}
use mathlib.Core.Logic.{◌⊎◌, inl, inr, ⊎_elim, ⊎_map}
use mathlib.Core.Bool.{true}
use mathlib.Core.List.{List}
use lib.ListN.{length}
use Rattle.rules.specs.Numbers.{Octets}
use Rattle.rules.specs.Pile.{lawful}
use Rattle.rules.specs.Layout.{columns, desks}
use Rattle.rules.specs.Book.{book_answer}
use Rattle.rules.specs.Take.{same_book, take_answer, taken, after_take}
use Rattle.rules.proofs.Loops.Refusals.{when_accepted, when_refused}
use Rattle.rules.proofs.Take.Order.{at_least_at}
use Rattle.relays.specs.Join.{Book, desk_row, body_in, row, numbers, pile_in, join}
use Rattle.relays.specs.Laws.{LawfulBook, OneOpening, NoSplit, Above, Joins, JoinLaws, Related, PassesCheck}
use Rattle.relays.specs.Files.{joined_file, join_answer}
use Rattle.relays.specs.FileLaws.{FileJoins, FileJoinLaws, Relayed}
use Rattle.relays.specs.Plans.{Plan, numbered, relay, carried, AllRelated, taken_by_plan, AllJoinable, SameNames}
use Rattle.relays.proofs.Bodies.{repeated, unlimited}
use Rattle.relays.proofs.Join.{above_orders, related_itself, order_of_relays}
use Rattle.relays.proofs.Plans.{any_plan, plans_join}
use Rattle.relays.proofs.Checked.{checks_carry_over}
use Rattle.relays.proofs.Read.{second_readable}
use Rattle.relays.proofs.Files.{take_meets_none, join_meets_none, joins_itself, taken_is_join, take_is_join, take_readable, file_laws}
use Rattle.relays.proofs.FilePlans.{any_file_plan, file_plans_join}
use Rattle.relays.proofs.Takes.{relays}
use Rattle.relays.proofs.Instances.{less_beside_more, wide_books, wide_related, own_file, old_copy, new_copy, own_bytes, old_bytes, new_bytes, takes_accepted, two_files, two_joinable}

-- the joins that the three laws name, of three books or files a, b and c
abbrev OfEach : {A : Type 0} → (A → A → A) → (A → A → Type 0) → A → A → A → Type 0
OfEach joined P a b c = P a b × P b a × P b c × P a a × P (joined a b) c × P a (joined b c)

-- books of any number of desks and piles
module _ (n p : ℕ) (a b c : Book) (ab : Related n p a b) (bc : Related n p b c) (ac : Related n p a c) where
  laws : JoinLaws n p a b c
  laws = order_of_relays n p a b c ab bc ac

  of_each : (P : Book → Book → Type 0) → ((x y : Book) → Joins n p x y → P x y) → OfEach (join n p) P a b c
  of_each P of =
      (of _ _ laws.first_second, of _ _ laws.second_first, of _ _ laws.second_third, of _ _ laws.first_itself, of _ _ laws.two_with_third, of _ _ laws.first_with_two)

  -- "None of the joins meets a split, and each result is lawful"
  pub none_meets_split : OfEach (join n p) (NoSplit n p) a b c
  none_meets_split = of_each _ (λ x y j. j.no_split)

  pub each_lawful : OfEach (join n p) (λ x y. LawfulBook n p (join n p x y)) a b c
  each_lawful = of_each _ (λ x y j. j.lawful)

  pub each_of_one_opening : OfEach (join n p) (λ x y. OneOpening p (join n p x y) x) a b c
  each_of_one_opening = of_each _ (λ x y j. j.opening)

  -- no tally of either is lost, and none is in it that a book with all of both would not have
  abbrev NoneLost : Book → Book → Type 0
  NoneLost x y =
      (k i t : ℕ) → k < p → i < n → t < columns n
      → (numbers (row x k i) t ≤ numbers (row (join n p x y) k i) t) × (numbers (row y k i) t ≤ numbers (row (join n p x y) k i) t)

  pub none_lost : OfEach (join n p) NoneLost a b c
  none_lost = of_each NoneLost (λ x y j k i t l m v. (at_least_at (columns n) _ _ (j.above_first.rows k i l m) t v, at_least_at (columns n) _ _ (j.above_second.rows k i l m) t v))

  pub none_made_up : OfEach (join n p) (λ x y. (z : Book) → Above n p z x → Above n p z y → Above n p z (join n p x y)) a b c
  none_made_up = of_each _ (λ x y j. j.least)

  -- so a book that has all of both and nothing that such a book need not have is their join
  pub only_least_bound : (z : Book) → LawfulBook n p z → OneOpening p z a → Above n p z a → Above n p z b
      → ((y : Book) → Above n p y a → Above n p y b → Above n p y z) → z ≡ join n p a b
  only_least_bound z lawful-z opening over-a over-b least =
      let j = laws.first_second in
      (above_orders n p).antisymmetric z (join n p a b) lawful-z j.lawful (λ k l. opening k l ∙ sym (j.opening k l))
      (j.least z over-a over-b) (least (join n p a b) j.above_first j.above_second)

  -- and what has all of a join has all of both, and all of itself
  pub goes_on : (z : Book) → Above n p z (join n p a b) → Above n p z z × Above n p z a × Above n p z b
  goes_on z over =
      let o = above_orders n p in
      let j = laws.first_second in
      (o.reflexive z, o.transitive z _ a over j.above_first, o.transitive z _ b over j.above_second)

  -- what lawful says of two joined with the third: so many piles, desks and numbers, and no desk's rights negative on any pile
  pub three_lawful : let all = join n p (join n p a b) c in (length all ≡ p) × ((k : ℕ) → k < p → let x = body_in all k in
      (length x.opening ≡ columns n) × (length x.rows ≡ n) × ((i : ℕ) → i < n → length (desk_row x i) ≡ columns n) × (lawful n (pile_in n x) ≡ true))
  three_lawful =
      let all = laws.two_with_third.lawful in
      (all.piles, λ k l. let x = all.bodies k l in (x.opening, x.desks, x.rows, x.none_negative))

  -- two of them joined may be joined again with the third, or with any book that all three may be joined with: the laws hold of the join as of a book
  two_beside_third : Related n p (join n p a b) c
  two_beside_third =
      record {
        first = laws.first_second.lawful;
        second = ac.second;
        opening = λ k l. laws.first_second.opening k l ∙ ac.opening k l;
        no_split = laws.two_with_third.no_split;
      }

  first_beside_two : Related n p a (join n p b c)
  first_beside_two =
      record {
        first = ab.first;
        second = laws.second_third.lawful;
        opening = λ k l. ab.opening k l ∙ sym (laws.second_third.opening k l);
        no_split = laws.first_with_two.no_split;
      }

  -- the other way round, and with what came before taken again
  pub in_reverse : join n p (join n p a b) c ≡ join n p (join n p c b) a
  in_reverse =
      laws.associative
      ∙ (order_of_relays n p a (join n p b c) (join n p b c) first_beside_two (related_itself n p first_beside_two.second) first_beside_two).commutative
      ∙ ap (λ (x : Book). join n p x a) (order_of_relays n p b c c bc (related_itself n p bc.second) bc).commutative

  pub taken_again : join n p (join n p a b) (join n p a b) ≡ join n p a b
  taken_again = (order_of_relays n p (join n p a b) c c two_beside_third (related_itself n p ac.second) two_beside_third).idempotent

  -- and where the three pass document 01's whole check, so does what the three give
  pub three_pass : PassesCheck n p a → PassesCheck n p b → PassesCheck n p c → PassesCheck n p (join n p (join n p a b) c)
  three_pass passes-a passes-b passes-c = checks_carry_over n p (join n p a b) c two_beside_third (checks_carry_over n p a b ab passes-a passes-b) passes-c

-- nine desks and 33 piles: for all such books, and for those that there are
pub nine_desks : (a b c : Book) → Related 9 33 a b → Related 9 33 b c → Related 9 33 a c → JoinLaws 9 33 a b c
nine_desks = order_of_relays 9 33

pub nine_desks_joined : JoinLaws 9 33 (wide_books 0) (wide_books 1) (wide_books 0)
nine_desks_joined = order_of_relays 9 33 _ _ _ (wide_related 0 1) (wide_related 1 0) (wide_related 0 0)

-- numbers over the limits of 5 and 6
pub limits_not_asked : join 1 1 (repeated 1 (unlimited 2000000000)) (repeated 1 (unlimited 3000000000)) ≡ join 1 1 (repeated 1 (unlimited 3000000000)) (repeated 1 (unlimited 2000000000))
limits_not_asked = (order_of_relays 1 1 _ _ _ less_beside_more (related_itself 1 1 less_beside_more.second) less_beside_more).commutative

pub nine_desks_planned : (books : ℕ → Book) → AllRelated 9 33 books → (t u : Plan) → SameNames t u → carried 9 33 books t ≡ carried 9 33 books u
nine_desks_planned = any_plan 9 33

-- two plans over three books: one after the other; and grouped otherwise, in another order, with the first of them twice
abbrev in_turn : Plan
in_turn = relay (relay (numbered 0) (numbered 1)) (numbered 2)

abbrev about : Plan
about = relay (relay (numbered 2) (numbered 0)) (relay (numbered 0) (numbered 1))

same_three : SameNames in_turn about
same_three i = (
  ⊎_elim (⊎_elim (λ e. inl (inr e)) (λ e. inr (inr e))) (λ e. inl (inl e)),
  ⊎_elim (⊎_elim (λ e. inr e) (λ e. inl (inl e))) (⊎_elim (λ e. inl (inl e)) (λ e. inl (inr e))),
)

pub nine_desks_about : carried 9 33 wide_books in_turn ≡ carried 9 33 wide_books about
nine_desks_about = any_plan 9 33 wide_books wide_related in_turn about same_three

module _ (n p : ℕ) (books : ℕ → Book) (related : AllRelated n p books) where
  pub in_turn_or_about : join n p (join n p (books 0) (books 1)) (books 2) ≡ join n p (join n p (books 2) (books 0)) (join n p (books 0) (books 1))
  in_turn_or_about = any_plan n p books related in_turn about same_three

  pub planned_lawful : (t u : Plan) → NoSplit n p (carried n p books t) (carried n p books u) × LawfulBook n p (join n p (carried n p books t) (carried n p books u))
  planned_lawful t u = let j = plans_join n p books related t u in (j.no_split, j.lawful)

-- files
module _ (a b c : List ℕ) (bytes-a : Octets a) (bytes-b : Octets b) (bytes-c : Octets c)
    (ab : join_answer a b ≡ 0) (bc : join_answer b c ≡ 0) (ac : join_answer a c ≡ 0) where
  laws_on_bytes : FileJoinLaws a b c
  laws_on_bytes = file_laws a b c bytes-a bytes-b bytes-c ab bc ac

  of_each_file : (P : List ℕ → List ℕ → Type 0) → ((x y : List ℕ) → FileJoins x y → P x y) → OfEach taken P a b c
  of_each_file P of =
      let l = laws_on_bytes in
      (of _ _ l.first_second, of _ _ l.second_first, of _ _ l.second_third, of _ _ l.first_itself, of _ _ l.two_with_third, of _ _ l.first_with_two)

  pub no_join_refused : OfEach taken (λ x y. join_answer x y ≡ 0) a b c
  no_join_refused = of_each_file _ (λ x y j. j.meets_none)

  pub each_readable : OfEach taken (λ x y. book_answer (taken x y) ≡ 0) a b c
  each_readable = of_each_file _ (λ x y j. j.readable)

  pub each_file_of_one_opening : OfEach taken (λ x y. same_book (taken x y) x ≡ true) a b c
  each_file_of_one_opening = of_each_file _ (λ x y j. j.opening)

  -- the first two exchanged and grouped otherwise; and a file taken into itself
  pub files_grouped_otherwise : (taken (taken b a) c ≡ taken a (taken b c)) × (taken a a ≡ a)
  files_grouped_otherwise = let l = laws_on_bytes in (ap (λ (x : List ℕ). taken x c) (sym l.commutative) ∙ l.associative, l.idempotent)

module _ (files : ℕ → List ℕ) (all : AllJoinable files) where
  pub files_in_turn_or_about : taken (taken (files 0) (files 1)) (files 2) ≡ taken (taken (files 2) (files 0)) (taken (files 0) (files 1))
  files_in_turn_or_about = any_file_plan files all in_turn about same_three

  pub planned_readable : (t u : Plan) → let x = taken_by_plan files t in let y = taken_by_plan files u in
      (join_answer x y ≡ 0) × (book_answer (taken x y) ≡ 0) × (same_book (taken x y) x ≡ true)
  planned_readable t u = let j = file_plans_join files all t u in (j.meets_none, j.readable, j.opening)

pub two_files_about : taken_by_plan two_files in_turn ≡ taken_by_plan two_files about
two_files_about = any_file_plan two_files two_joinable in_turn about same_three

-- takes of two files
module _ (own copy : List ℕ) (bytes-own : Octets own) (bytes-copy : Octets copy) where
  -- two desks that may both take a copy are left with the same book
  pub whichever_desk : (d e : ℕ) → take_answer d own copy ≡ 0 → take_answer e own copy ≡ 0 → after_take d own copy ≡ after_take e own copy
  whichever_desk d e at-d at-e = take_is_join d own copy bytes-own bytes-copy at-d ∙ sym (take_is_join e own copy bytes-own bytes-copy at-e)

  -- the laws of two files: the third is the second again
  two_files_lem : join_answer own copy ≡ 0 → FileJoinLaws own copy copy
  two_files_lem met = file_laws own copy copy bytes-own bytes-copy bytes-copy met (joins_itself copy (second_readable own copy met)) met

  -- where a desk may take a copy, what it is left with is a book, and what the copy's desk would be left with by taking its book, if that is accepted
  pub one_book_comes_out : (d e : ℕ) → take_answer d own copy ≡ 0 → take_answer e copy own ≡ 0 → (book_answer (after_take d own copy) ≡ 0) × (after_take d own copy ≡ after_take e copy own)
  unfolding after_take
  one_book_comes_out d e at-d at-e = (
    take_readable d own copy bytes-own bytes-copy at-d,
    when_accepted _ _ _ at-d ∙ (two_files_lem (take_meets_none d own copy at-d)).commutative ∙ sym (when_accepted _ _ _ at-e),
  )

  -- where joining two files meets nothing, a desk that takes the one into the other is left with their join, or is refused and keeps its own
  pub joined_or_kept : (d : ℕ) → d < desks own → join_answer own copy ≡ 0 → (after_take d own copy ≡ joined_file own copy) ⊎ (after_take d own copy ≡ own)
  unfolding after_take
  joined_or_kept d known met =
      ⊎_map (λ e. when_accepted _ _ _ e ∙ taken_is_join own copy bytes-own bytes-copy met)
      (λ e. when_refused _ _ _ (λ z. suc-ne-zero 31 (sym e ∙ z))) (join_meets_none d own copy known met)

-- takes of three: none is refused, and desk d is left with the same bytes whether it took c and then b, or what desk e had made of the two
module _ (d e : ℕ) (a b c : List ℕ) (bytes-a : Octets a) (bytes-b : Octets b) (bytes-c : Octets c)
    (ab : take_answer d a b ≡ 0) (ac : take_answer d a c ≡ 0) (bc : take_answer e b c ≡ 0) where
  relayed : Relayed d e a b c
  relayed = relays d e a b c bytes-a bytes-b bytes-c ab ac bc

  pub no_take_refused : (take_answer d (after_take d a b) c ≡ 0) × (take_answer d (after_take d a c) b ≡ 0) × (take_answer d a (after_take e b c) ≡ 0)
  no_take_refused = (relayed.c_after_b, relayed.b_after_c, relayed.both_at_once)

  pub same_bytes_left : after_take d (after_take d a c) b ≡ after_take d a (after_take e b c)
  same_bytes_left = sym relayed.same_in_turn ∙ relayed.same_at_once

-- so it is with two copies of which the new one has all of the old one
pub copies_relayed : Relayed 0 1 own_file new_copy old_copy
copies_relayed = let (takes-new, takes-old, has-old) = takes_accepted in relays 0 1 own_file new_copy old_copy own_bytes new_bytes old_bytes takes-new takes-old has-old
