-- Plans of relays: what a plan gives is the least upper bound of the books that it names, so two plans that name the same books give one book.
-- Assumes nothing.
use Prim.Native.Nat.{ℕ}
use mathlib.Core.Path.{◌≡◌, refl, sym, subst}
use mathlib.Core.Logic.{inl, inr, ⊎_elim}
use Rattle.relays.specs.Join.{Book}
use Rattle.relays.specs.Laws.{Above, Related}
use Rattle.relays.specs.Plans.{Plan, numbered, relay, Names, SameNames, carried, AllRelated, AnyPlan, PlansJoin}
use Rattle.relays.proofs.Join.{joins, above_reflexive, above_transitive, above_antisymmetric, related_exchanged, related_join}

module _ (n p : ℕ) (books : ℕ → Book) (related : AllRelated n p books) where
  abbrev given : Plan → Book
  given t = carried n p books t

  -- a plan's book beside any book that all its books are related to, and so beside another plan's
  related_to : (t : Plan) (x : Book) → ((i : ℕ) → Related n p (books i) x) → Related n p (given t) x
  related_to (numbered i) x all = all i
  related_to (relay t u) x all =
      related_join n p (related_to t (given u) (λ i. related_exchanged n p (related_to u (books i) (λ j. related j i)))) (related_to u x all) (related_to t x all)

  pub plans_related : (t u : Plan) → Related n p (given t) (given u)
  plans_related t u = related_to t (given u) (λ i. related_exchanged n p (related_to u (books i) (λ j. related j i)))

  -- the least upper bound of the books that it names
  above_named : (t : Plan) (i : ℕ) → Names t i → Above n p (given t) (books i)
  above_named (numbered j) i e = subst (λ (k : ℕ). Above n p (books j) (books k)) (sym e) (above_reflexive n p (books j))
  above_named (relay t u) i named =
      let both = joins n p (given t) (given u) (plans_related t u) in
      ⊎_elim (λ m. above_transitive n p both.above_first (above_named t i m))
      (λ m. above_transitive n p both.above_second (above_named u i m)) named

  least_named : (t : Plan) (x : Book) → ((i : ℕ) → Names t i → Above n p x (books i)) → Above n p x (given t)
  least_named (numbered j) x above = above j refl
  least_named (relay t u) x above =
      (joins n p (given t) (given u) (plans_related t u)).least x (least_named t x (λ i m. above i (inl m))) (least_named u x (λ i m. above i (inr m)))

  same_given : (t u : Plan) → SameNames t u → given t ≡ given u
  same_given t u same =
      let r = plans_related t u in
      above_antisymmetric n p (given t) (given u) r.first r.second r.opening (least_named u (given t) (λ i m. above_named t i ((same i).1 m)))
      (least_named t (given u) (λ i m. above_named u i ((same i).0 m)))

pub any_plan : AnyPlan
any_plan n p books related t u same = same_given n p books related t u same

pub plans_join : PlansJoin
plans_join n p books related t u = joins n p _ _ (plans_related n p books related t u)
