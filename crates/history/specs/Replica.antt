-- A replica and the calls of a history, over any kind of state: nothing here knows the pit book.
-- Assumes nothing.
use Rattle.std.specs.Prelude.{ℕ, ◌≤◌, ◌<◌, List, [], ◌∷◌, length}

-- What a desk can do to its own copy. A desk (field term: replica) is a number; an answer is a refusal's number, or 0.
pub record Replica : Type 1 where
  pub State : Type 0
  pub Act : Type 0
  pub act_answer : ℕ → Act → State → ℕ
  pub after_act : ℕ → Act → State → State
  -- the taker's desk, its own state, and the copy: a take is a state-based merge
  pub take_answer : ℕ → State → State → ℕ
  pub after_take : ℕ → State → State → State

-- A step: an act at a desk, or a desk's take of the copy that was made of source's state at a moment.
-- A moment counts the calls before it: 0 is the start.
pub data Call (Act : Type 0) : Type 0 where
  act : (desk : ℕ) → Act → Call Act
  take : (desk source moment : ℕ) → Call Act

abbrev pub caller : {Act : Type 0} → Call Act → ℕ
caller (act d a) = d
caller (take d e m) = d

-- A history, newest call first: its tail is the history before its last call, and a call's place is the length of that tail.
-- Every desk is one of n, and a copy was made at the start or after an earlier call.
abbrev pub Valid : {Act : Type 0} → ℕ → List (Call Act) → Type 0
Valid n [] = Unit {0}
Valid n (act d a ∷ h) = (d < n) × Valid n h
Valid n (take d e m ∷ h) = (d < n) × (e < n) × (m ≤ length h) × Valid n h
