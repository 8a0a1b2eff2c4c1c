-- A refused call changes no lent byte, and hands out nothing: an empty part, all zeros, or the record as it came.
-- Assumes nothing.
use Prim.Native.Nat.{ℕ}
use mathlib.Core.Path.{◌≡◌}
use mathlib.Core.Logic.{◌≢◌}
use mathlib.Core.List.{List, []}
use Rattle.rules.specs.Acts.{Kind, Act}
use Rattle.rules.specs.Book.{fetch_answer, body_part, act_answer, after_act}
use Rattle.rules.specs.Record.{Record, zero_record, fresh_answer, fresh_record, record_act_answer, record_after_act, store_answer, after_store}
use Rattle.rules.specs.Take.{take_answer, after_take}
use Rattle.rules.proofs.Loops.Refusals.{when_refused}

pub body_refused : (b : List ℕ) (number : ℕ) → fetch_answer b number ≢ 0 → body_part b number ≡ []
unfolding body_part
body_refused b number h = when_refused _ _ _ h

pub store_refused : (b : List ℕ) (number : ℕ) (r : Record) → store_answer b number r ≢ 0 → after_store b number r ≡ b
unfolding after_store
store_refused b number r h = when_refused _ _ _ h

pub act_refused : (i : ℕ) (a : Act) (b : List ℕ) → act_answer i a b ≢ 0 → after_act i a b ≡ b
unfolding after_act
act_refused i a b h = when_refused _ _ _ h

pub take_refused : (d : ℕ) (own copy : List ℕ) → take_answer d own copy ≢ 0 → after_take d own copy ≡ own
unfolding after_take
take_refused d own copy h = when_refused _ _ _ h

pub fresh_refused : (n floor top : ℕ) (shares : List ℕ) → fresh_answer n floor top shares ≢ 0
    → fresh_record n floor top shares ≡ zero_record
unfolding fresh_record
fresh_refused n floor top shares h = when_refused _ _ _ h

pub record_act_refused : (i : ℕ) (kind : Kind) (t : ℕ) (r : Record) → record_act_answer i kind t r ≢ 0 → record_after_act i kind t r ≡ r
unfolding record_after_act
record_act_refused i kind t r h = when_refused _ _ _ h
