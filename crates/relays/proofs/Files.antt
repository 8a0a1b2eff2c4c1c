-- The order of relays on bytes: an accepted take is the join, and readable files that meet neither 30 nor 31 have its laws.
-- Assumes nothing.
use Prim.Native.Nat.{ℕ, suc}
use mathlib.Core.Path.{◌≡◌, refl, ap, ap₂, sym, subst, ◌∙◌}
use mathlib.Core.Logic.{◌⊎◌, inl, inr}
use mathlib.Core.Bool.{true, false, not}
use mathlib.Core.List.{List}
use lib.ListN.{length}
use lib.Dec.{eqb}
use borrow.Author.Tests.{lt-ltb, eq-eqb}
use Rattle.history.proofs.Sets.{cases}
use Rattle.rules.specs.Numbers.{Octets}
use Rattle.rules.specs.Loops.{◌and◌}
use Rattle.rules.specs.Layout.{desks, piles, pile_number, pile_of}
use Rattle.rules.specs.Rows.{Comparison, is_split, is_row_length, places, numbers_of, compared}
use Rattle.rules.specs.Book.{book_answer}
use Rattle.rules.specs.Take.{row_part, of_copy, same_book, row_answer, take_answer, taken, after_take}
use Rattle.rules.proofs.Loops.Logic.{and_both}
use Rattle.rules.proofs.Loops.Every.{every_all}
use Rattle.rules.proofs.Loops.Refusals.{not_met, none_met, first_none, or_else_passes, when_either, or_else_either, first_either, when_accepted}
use Rattle.rules.proofs.Pile.Agree.{same_opening_lem}
use Rattle.rules.proofs.File.LawfulBook.{Frame}
use Rattle.rules.proofs.Take.RowOrder.{itself_alike}
use Rattle.rules.proofs.Take.InPlace as take
use Rattle.relays.specs.Join.{Book, join}
use Rattle.relays.specs.Files.{book_of, file, joined_file, join_answer}
use Rattle.relays.specs.FileLaws.{TakeMeetsNone, JoinMeetsNone, JoinsItself, TakenIsJoin, TakeIsJoin, TakeReadable, FileJoins, FileJoinLaws, FileLaws}
use Rattle.relays.proofs.Join.{order_of_relays}
use Rattle.relays.proofs.Checked.{Checked, checked_exchanged, checked_itself, checked_join, checked_to_join}
use Rattle.relays.proofs.Written.{file_readable, same_books, taken_join, join_accepted}
use Rattle.relays.proofs.Read.{first_readable, second_readable, same_book_lem, rows_whole, frame, first_file, second_file, checked, under_first, as_files}

-- a take that is accepted meets nothing that joining the two meets
pub take_meets_none : TakeMeetsNone
unfolding join_answer
take_meets_none d own copy e =
    none_met (take.own_readable d own copy e)
    (none_met (ap of_copy (take.copy_readable d own copy e))
    (none_met (not_met 30 (ap not (take.one_book d own copy e)))
    (first_none (piles own) (λ k l. first_none (desks own) (λ i m. not_met 31 (take.no_row_split d own copy e k i l m))))))

-- and where joining two files meets nothing, a take of the one into the other meets neither 30 nor 31, at any desk
pub join_meets_none : JoinMeetsNone
unfolding take_answer row_answer
join_meets_none d own copy known met =
    subst DoneOr32
    (sym (or_else_passes (first_readable own copy met) _
    ∙ or_else_passes (ap of_copy (second_readable own copy met)) _
    ∙ or_else_passes (not_met 11 (ap not (lt-ltb d (desks own) known))) _
    ∙ or_else_passes (not_met 30 (ap not (same_book_lem own copy met))) _))
    (first_either DoneOr32 (piles own) (inl refl) (λ k l. first_either DoneOr32 (desks own) (inl refl) (λ i m.
    or_else_either DoneOr32 _ _ (inl (not_met 31 (rows_whole own copy met k i l m))) (when_either DoneOr32 32 (inr refl) (inl refl) _))))
  where
    DoneOr32 : ℕ → Type 0
    DoneOr32 answer = (answer ≡ 0) ⊎ (answer ≡ 32)

-- a readable file joined with itself: its openings are the same, and each row is alike to itself
pub joins_itself : JoinsItself
unfolding join_answer same_book compared
joins_itself b readable =
    none_met readable
    (none_met (ap of_copy readable)
    (none_met (not_met 30 (ap not same))
    (first_none (piles b) (λ k l. first_none (desks b) (λ i m. not_met 31 (whole (row_part b k (suc i))))))))
  where
    same : same_book b b ≡ true
    same =
        and_both (eq-eqb (desks b) _ refl)
        (and_both (eq-eqb (piles b) _ refl)
        (every_all (piles b)
        (λ k l. and_both (eq-eqb (pile_number b k) _ refl) (same_opening_lem (desks b) (pile_of b k) (pile_of b k) refl refl (λ s i m. refl)))))

    whole : (r : List ℕ) → is_split (compared r r) ≡ false
    whole r =
        cases (λ (order : Comparison). is_split order ≡ false) (is_row_length (length r) and eqb (length r) (length r))
        (λ _. ap is_split (itself_alike (places r) (numbers_of r))) (λ _. refl)

-- where joining two files meets nothing, what is taken of them is the file of the join, whatever the taker's desk
pub taken_is_join : TakenIsJoin
unfolding joined_file
taken_is_join own copy o o' met =
    sym (ap₂ taken (first_file own copy met o o') (second_file own copy met o o'))
    ∙ taken_join (desks own) (piles own) (pile_number own) (frame own copy met o o') (book_of own) (book_of copy) (checked own copy met o o')

-- 6/12: the take of document 01 is this join where it is accepted
pub take_is_join : TakeIsJoin
unfolding after_take
take_is_join d own copy o o' e = when_accepted _ _ _ e ∙ taken_is_join own copy o o' (take_meets_none d own copy e)

-- the laws for files of related books that pass the check
module _ (n p : ℕ) (pile_numbers : ℕ → ℕ) (frame : Frame n p pile_numbers) where
  abbrev at : Book → List ℕ
  at a = file n p pile_numbers a

  joined : (a b : Book) → Checked n p a b → taken (at a) (at b) ≡ at (join n p a b)
  joined a b ab = taken_join n p pile_numbers frame a b ab

  pub written_joins : (a b : Book) → Checked n p a b → FileJoins (at a) (at b)
  written_joins a b ab =
      let back = checked_join n p ab (checked_exchanged n p ab) (checked_itself n p ab) in
      record {
        meets_none = join_accepted n p pile_numbers frame a b ab;
        readable = subst (λ (x : List ℕ). book_answer x ≡ 0) (sym (joined a b ab)) (file_readable n p pile_numbers frame (join n p a b) back.first);
        opening = subst (λ (x : List ℕ). same_book x (at a) ≡ true) (sym (joined a b ab)) (same_books n p pile_numbers frame (join n p a b) a back);
      }

  written_laws : (a b c : Book) → Checked n p a b → Checked n p b c → Checked n p a c → FileJoinLaws (at a) (at b) (at c)
  written_laws a b c ab bc ac =
      let laws = order_of_relays n p a b c ab.related bc.related ac.related in
      let ba = checked_exchanged n p ab in
      let aa = checked_itself n p ab in
      let ab-c = checked_join n p ab bc ac in
      let a-bc = checked_to_join n p ab bc ac in
      record {
        commutative = joined a b ab ∙ ap at laws.commutative ∙ sym (joined b a ba);
        associative =
            ap (λ (x : List ℕ). taken x (at c)) (joined a b ab) ∙ joined (join n p a b) c ab-c
            ∙ ap at laws.associative
            ∙ sym (ap (taken (at a)) (joined b c bc) ∙ joined a (join n p b c) a-bc);
        idempotent = joined a a aa ∙ ap at laws.idempotent;
        first_second = written_joins a b ab;
        second_first = written_joins b a ba;
        second_third = written_joins b c bc;
        first_itself = written_joins a a aa;
        two_with_third = subst (λ (x : List ℕ). FileJoins x (at c)) (sym (joined a b ab)) (written_joins (join n p a b) c ab-c);
        first_with_two = subst (FileJoins (at a)) (sym (joined b c bc)) (written_joins a (join n p b c) a-bc);
      }

-- what is said of one join holds of any two files that meet none of its refusals
file_joins : (a b : List ℕ) → Octets a → Octets b → join_answer a b ≡ 0 → FileJoins a b
file_joins a b oa ob ab =
    as_files (λ x y _. FileJoins x y) a b b oa ob ob ab ab
    (written_joins (desks a) (piles a) (pile_number a) (frame a b ab oa ob) (book_of a) (book_of b) (checked a b ab oa ob))

-- so an accepted take leaves a readable book, also where no history leads to it
pub take_readable : TakeReadable
unfolding after_take
take_readable d own copy o o' e = ap book_answer (when_accepted _ _ _ e) ∙ (file_joins own copy o o' (take_meets_none d own copy e)).readable

-- 6/12 on bytes: the order of relays is of no consequence for readable books whose takes of one another meet neither 30 nor 31
pub file_laws : FileLaws
file_laws a b c oa ob oc ab bc ac =
    as_files FileJoinLaws a b c oa ob oc ab ac
    (written_laws (desks a) (piles a) (pile_number a) (frame a b ab oa ob) (book_of a) (book_of b) (book_of c) (checked a b ab oa ob)
    (under_first (λ n p. Checked n p (book_of b) (book_of c)) a b ab (checked b c bc ob oc)) (checked a c ac oa oc))
