-- The bounds of all desks at once, from the account of a body.
-- Assumes nothing.
use Prim.Native.Nat.{ℕ, ◌+◌, ◌≤◌, ◌<◌}
use native.Mathlib.Omega.{arith}
use mathlib.Core.Path.{◌≡◌, ap, sym, ◌∙◌}
use mathlib.Core.List.{List}
use lib.ListN.{get_or}
use Rattle.rules.specs.Loops.{list}
use Rattle.rules.specs.Pile.{Side, Pile, rights}
use Rattle.rules.specs.Layout.{desk_limit, body_view}
use Rattle.rules.specs.Record.{padded}
use Rattle.rules.specs.Bounds.{bound}
use Rattle.rules.proofs.Loops.Refusals.{when_accepted}
use Rattle.rules.proofs.Loops.Pieces.{getD_list}
use Rattle.rules.proofs.Record.RecordOf.{padded_used}
use Rattle.rules.proofs.Record.Padded.{padded_cong}
use Rattle.rules.proofs.Pile.Bounds.{rights_room}
use Rattle.audit.specs.Audits.{account_answer, account_number, account_rights}
use Rattle.audit.proofs.OfAccount.{few_desks, lawful, number_is}
use Rattle.bounds.specs.Inner.{kept}
use Rattle.bounds.specs.AccountBounds.{account_bounds}
use Rattle.bounds.proofs.Kept.{kept_bound}

-- the body is lawful
module _ (s : Side) (n at : ℕ) (b : List ℕ) (passed : account_answer n at b ≡ 0) where
  abbrev P : Pile
  P = body_view n b at

  abbrev floor : ℕ
  floor = account_number (λ p. p.floor) n at b

  abbrev top : ℕ
  top = account_number (λ p. p.top) n at b

  abbrev found : ℕ → ℕ
  found i = get_or (account_rights s n at b) i 0

  floor_read : floor ≡ P.floor
  floor_read = sym (number_is n at b passed (λ p. p.floor))

  top_read : top ≡ P.top
  top_read = sym (number_is n at b passed (λ p. p.top))

  at_desk : (i : ℕ) → i < n → found i ≡ rights n P s i
  unfolding account_rights
  at_desk i l =
      ap (λ (x : List ℕ). get_or x i 0) (when_accepted _ _ _ passed)
      ∙ getD_list desk_limit (padded n (rights n P s)) 0 i (omega (arith, few_desks n at b passed)) ∙ padded_used n (rights n P s) i l

  pub all_room : (i : ℕ) → i < n → floor + found i ≤ top
  all_room i l = rw (at_desk i l, floor_read, top_read) (rights_room n P (lawful n at b passed) s i l)

  pub all_kept : account_bounds s n at b ≡ list desk_limit (padded n (λ i. kept s floor top (found i)))
  unfolding account_bounds
  all_kept =
      when_accepted _ _ _ passed
      ∙ padded_cong desk_limit n (bound n P s) (λ i. kept s floor top (found i)) (λ i l. rw (at_desk i l, floor_read, top_read) (kept_bound n P s i))

pub ruleset all_bounds = (few_desks, all_room, all_kept)
