-- A record's numbers, copied into a list in runs and out of it again; and the record of a body that was padded into a list of zeros.
-- Assumes nothing.
use Prim.Native.Nat.{ℕ, ◌+◌, ◌≤◌}
use native.Mathlib.Nat.{le_of_eq}
use native.Mathlib.Omega.{arith}
use mathlib.Core.Path.{◌≡◌, refl, ap, ap₂, ◌∙◌}
use mathlib.Core.Logic.{◌≢◌}
use mathlib.Core.Bool.{Bool, true, false}
use mathlib.Core.List.{List, ◌∷◌}
use lib.ListN.{length, get_or, take, replicate, length-replicate, length-append}
use borrow.Rule.Slice.PartMut.{put_mid}
use Rattle.std.proofs.Common.{append-nil}
use lib.Seq.{sets, take_all, take_at, drop_at}
use lib.Dec.{leb, lit≤}
use borrow.Author.Tests.{leb-true, leb-false, le-ltb, lt-ltb}
use Rattle.rules.specs.Loops.{◌and◌, between}
use Rattle.rules.specs.Refusals.{◌when◌, ◌or_else◌}
use Rattle.rules.specs.Layout.{desk_limit, body_length, body_view}
use Rattle.rules.specs.Record.{Record, share_places, tally_places, zero_record, record_of, body_record}
use Rattle.rules.proofs.Loops.Logic.{and_left, and_right}
use Rattle.rules.proofs.Loops.Refusals.{when_accepted, when_refused}
use Rattle.rules.proofs.Loops.Sets.{sets_to_end}
use Rattle.rules.proofs.Record.RecordOf.{length_shares, length_tallies}
use Rattle.padding.specs.Lists.{record_length, body_numbers, record_numbers, numbers_record, pad_answer, after_pad}

module _ (r : Record) (shares : length r.shares ≡ share_places) (tallies : length r.tallies ≡ tally_places) where
  pub length_record : length (record_numbers r) ≡ record_length
  unfolding record_numbers body_numbers
  length_record = simp length-append (omega (arith, shares, tallies))

  -- a list of zeros of a record's length becomes its numbers
  all_numbers : sets (replicate record_length 0) 0 (record_numbers r) ≡ record_numbers r
  all_numbers = sets_to_end (replicate record_length 0) 0 (record_numbers r) (omega (arith, length_record, length-replicate {A = ℕ} record_length 0))

  -- n, floor and top in a list of zeros, and the shares and the tallies written behind them
  pub runs_listed : {n : ℕ} {two three : List ℕ} → n ≡ r.n → two ≡ r.shares → three ≡ r.tallies
      → put_mid 19 144 (put_mid 3 16 (n ∷ r.floor ∷ r.top ∷ replicate 160 0) two) three ≡ record_numbers r
  unfolding record_numbers body_numbers
  runs_listed first second third =
      rw (first, second, third, take_at r.shares (replicate 144 0) 16 shares, drop_at r.shares (replicate 144 0) 16 shares, append-nil)

  -- and they are the record again
  pub numbers_again : numbers_record (record_numbers r) ≡ r
  unfolding record_numbers body_numbers numbers_record
  numbers_again =
      ap₂ (λ (s t : List ℕ). record { n = r.n; floor = r.floor; top = r.top; shares = s; tallies = t })
      (take_at r.shares r.tallies share_places shares)
      (ap (take tally_places) (drop_at r.shares r.tallies share_places shares) ∙ take_all tally_places r.tallies (le_of_eq tallies))

-- a list that is a record's: its n, and the record
abbrev Listed : List ℕ → Record → Type 0
Listed l r = (get_or l 0 0 ≤ 8) × (numbers_record l ≡ r)

zeros_listed : Listed (replicate record_length 0) zero_record
unfolding numbers_record
zeros_listed = (lit≤ tt, refl)

-- what padding leaves of a list of zeros: the record's numbers where a body is there, and zeros where none is
module _ (n at : ℕ) (b : List ℕ) where
  abbrev R : Record
  R = record_of n (body_view n b at)

  abbrev there : Bool
  there = between 1 desk_limit n and leb (at + body_length n) (length b)

  numbers_listed : n ≤ 8 → Listed (record_numbers R) R
  unfolding record_of record_numbers
  numbers_listed few = (few, numbers_again R (length_shares n (body_view n b at)) (length_tallies n (body_view n b at)))

  answered : there ≡ true → pad_answer n at (length b) record_length ≡ 0
  unfolding pad_answer ◌when◌ ◌or_else◌
  answered e = rw (and_left _ _ e, le-ltb _ _ (leb-true _ _ (and_right _ _ e)))

  refused : (inside : Bool) → between 1 desk_limit n ≡ inside → there ≡ false → pad_answer n at (length b) record_length ≢ 0
  unfolding pad_answer ◌when◌ ◌or_else◌ ◌and◌
  refused false out e z = omega (arith, rw out at z)
  refused true within e z = omega (arith, rw (within, lt-ltb _ _ (leb-false _ _ (rw within at e))) at z)

  by_test : (t : Bool) → there ≡ t → Listed (after_pad n at b (replicate record_length 0)) (body_record n b at)
  unfolding after_pad body_record between
  by_test true e =
      rw (
        e,
        when_accepted _ (sets (replicate record_length 0) 0 (record_numbers R)) (replicate record_length 0) (answered e),
        all_numbers R (length_shares n (body_view n b at)) (length_tallies n (body_view n b at)),
      )
      (numbers_listed (leb-true _ _ (and_right _ _ (and_left _ _ e))))
  by_test false e = rw (e, when_refused _ (sets (replicate record_length 0) 0 (record_numbers R)) (replicate record_length 0) (refused _ refl e)) zeros_listed

  pub padded_few : get_or (after_pad n at b (replicate record_length 0)) 0 0 ≤ 8
  padded_few = (by_test _ refl).0

  pub padded_is : numbers_record (after_pad n at b (replicate record_length 0)) ≡ body_record n b at
  padded_is = (by_test _ refl).1
