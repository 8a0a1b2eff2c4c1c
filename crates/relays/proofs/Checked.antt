-- Related books that pass document 01's whole check, which are those that files hold: 5 and 6 carry over to a join, so such books stay so.
-- Assumes nothing.
use Prim.Native.Nat.{ℕ}
use mathlib.Core.Path.{◌≡◌, sym, subst}
use Rattle.rules.specs.Pile.{pile_answer}
use Rattle.relays.specs.Join.{Body, Book, pile_in, join}
use Rattle.relays.specs.Laws.{Related, PassesCheck, ChecksCarryOver}
use Rattle.relays.proofs.Lawful.{joined_passes}
use Rattle.relays.proofs.Join.{body_of_join, related_exchanged, related_itself, related_join}

pub checks_carry_over : ChecksCarryOver
checks_carry_over n p a b ab passes-a passes-b k l =
    subst (λ (x : Body). pile_answer n (pile_in n x) ≡ 0) (sym (body_of_join n p a b k l))
    (joined_passes n _ _ (ab.first.bodies k l) (ab.second.bodies k l) (ab.opening k l) (λ i m. ab.no_split k i l m) (passes-a k l) (passes-b k l))

-- two books that are related and pass
pub record Checked (n p : ℕ) (a b : Book) : Type 0 where
  pub related : Related n p a b
  pub first : PassesCheck n p a
  pub second : PassesCheck n p b

-- exchanged, the first with itself, and two of them joined beside the third
module _ (n p : ℕ) where
  pub checked_exchanged : {a b : Book} → Checked n p a b → Checked n p b a
  checked_exchanged ab = record { related = related_exchanged n p ab.related; first = ab.second; second = ab.first }

  pub checked_itself : {a b : Book} → Checked n p a b → Checked n p a a
  checked_itself ab = record { related = related_itself n p ab.related.first; first = ab.first; second = ab.first }

  pub checked_join : {a b c : Book} → Checked n p a b → Checked n p b c → Checked n p a c → Checked n p (join n p a b) c
  checked_join {a} {b} ab bc ac =
      record {
        related = related_join n p ab.related bc.related ac.related;
        first = checks_carry_over n p a b ab.related ab.first ab.second;
        second = ac.second;
      }

  pub checked_to_join : {a b c : Book} → Checked n p a b → Checked n p b c → Checked n p a c → Checked n p a (join n p b c)
  checked_to_join ab bc ac = checked_exchanged (checked_join bc (checked_exchanged ac) (checked_exchanged ab))
