-- Plans of relays on bytes: what a plan leaves is the file of what it gives of the books that the files hold, so it depends on the files that it names alone, and no relay
-- on the way meets a refusal.
-- Assumes nothing.
use Prim.Native.Nat.{ℕ}
use mathlib.Core.Path.{◌≡◌, ap, ap₂, sym, subst, ◌∙◌}
use mathlib.Core.List.{List}
use Rattle.rules.specs.Layout.{desks, piles, pile_number}
use Rattle.rules.specs.Take.{taken}
use Rattle.rules.proofs.File.LawfulBook.{Frame}
use Rattle.relays.specs.Join.{Book}
use Rattle.relays.specs.Laws.{PassesCheck}
use Rattle.relays.specs.Files.{book_of, file}
use Rattle.relays.specs.FileLaws.{FileJoins}
use Rattle.relays.specs.Plans.{Plan, numbered, relay, carried, AllRelated, taken_by_plan, AllJoinable, AnyFilePlan, FilePlansJoin}
use Rattle.relays.proofs.Plans.{plans_related, any_plan}
use Rattle.relays.proofs.Checked.{Checked, checks_carry_over}
use Rattle.relays.proofs.Written.{taken_join}
use Rattle.relays.proofs.Read.{frame, second_file, checked, under_first}
use Rattle.relays.proofs.Files.{written_joins}

module _ (files : ℕ → List ℕ) (all : AllJoinable files) where
  abbrev n : ℕ
  n = desks (files 0)

  abbrev p : ℕ
  p = piles (files 0)

  abbrev pile_numbers : ℕ → ℕ
  pile_numbers = pile_number (files 0)

  abbrev books : ℕ → Book
  books i = book_of (files i)

  all_checked : (i j : ℕ) → Checked n p (books i) (books j)
  all_checked i j =
      under_first (λ n p. Checked n p (books i) (books j)) (files 0) (files i) (all.meet_none 0 i) (checked (files i) (files j) (all.meet_none i j) (all.of_bytes i) (all.of_bytes j))

  all_related : AllRelated n p books
  all_related i j = (all_checked i j).related

  -- what a plan gives passes the check, since each join on the way does
  plan_passes : (t : Plan) → PassesCheck n p (carried n p books t)
  plan_passes (numbered i) = (all_checked i i).first
  plan_passes (relay t u) = checks_carry_over n p _ _ (plans_related n p books all_related t u) (plan_passes t) (plan_passes u)

  plans_checked : (t u : Plan) → Checked n p (carried n p books t) (carried n p books u)
  plans_checked t u = record { related = plans_related n p books all_related t u; first = plan_passes t; second = plan_passes u }

  first_frame : Frame n p pile_numbers
  first_frame = frame (files 0) (files 0) (all.meet_none 0 0) (all.of_bytes 0) (all.of_bytes 0)

  plan_file : (t : Plan) → taken_by_plan files t ≡ file n p pile_numbers (carried n p books t)
  plan_file (numbered i) = sym (second_file (files 0) (files i) (all.meet_none 0 i) (all.of_bytes 0) (all.of_bytes i))
  plan_file (relay t u) =
      ap₂ taken (plan_file t) (plan_file u) ∙ taken_join n p pile_numbers first_frame (carried n p books t) (carried n p books u) (plans_checked t u)

pub file_plans_join : FilePlansJoin
file_plans_join files all t u =
    subst (λ (x : List ℕ). FileJoins x (taken_by_plan files u)) (sym (plan_file files all t))
    (subst (FileJoins _) (sym (plan_file files all u)) (written_joins (n files all) (p files all) (pile_numbers files all) (first_frame files all) _ _ (plans_checked files all t u)))

pub any_file_plan : AnyFilePlan
any_file_plan files all t u same =
    plan_file files all t
    ∙ ap (file (n files all) (p files all) (pile_numbers files all)) (any_plan _ _ (books files all) (all_related files all) t u same)
    ∙ sym (plan_file files all u)
