-- Lists of tickets in bytes, one ticket behind the other: what is wrong with the bridge's and the desk's, and what comparing them hands back.
-- Assumes nothing.
use Rattle.std.specs.Prelude.{ℕ, Result, Ok, Err, ◌*◌, ◌/◌, ◌%◌, Bool, not, List, length, eqb, ltb}
use Rattle.rules.specs.Loops.{◌or◌, list}
use Rattle.rules.specs.Refusals.{◌when◌, ◌or_else◌, first, done}
use Rattle.rules.specs.Numbers.{part}
use Rattle.ticket.specs.declared.Ticket.{Ticket}
use Rattle.ticket.specs.Tickets.{ticket_length, ticket_of, read_answer}
use Rattle.refusal.specs.declared.Refusal.{Refusal}
use Rattle.refusal.specs.Answers.{number_of}
use Rattle.reconcile.specs.declared.Counts.{Counts}
use Rattle.reconcile.specs.Counts.{numbers_rise, alike_in_both, differing_in_both, only_in_first}

abbrev pub list_limit : ℕ
list_limit = 4096

-- how many tickets, and the bytes of ticket k
abbrev pub tickets_in : List ℕ → ℕ
tickets_in b = length b / ticket_length

abbrev pub ticket_part : List ℕ → ℕ → List ℕ
ticket_part b k = part (k * ticket_length) ticket_length b

unfoldable pub tickets_of : List ℕ → List Ticket
tickets_of b = list (tickets_in b) (λ k. ticket_of (ticket_part b k))

-- no multiple of 11, or over 4,096 tickets
unfoldable pub length_wrong : List ℕ → Bool
length_wrong b = not (eqb (length b % ticket_length) 0) or ltb (list_limit * ticket_length) (length b)

-- each ticket's own refusal, in list order
unfoldable pub tickets_answer : List ℕ → ℕ
tickets_answer b = first (tickets_in b) (λ k. read_answer (ticket_part b k))

unfoldable pub reconcile_answer : (bridge desk : List ℕ) → ℕ
reconcile_answer bridge desk =
    3 when (length_wrong bridge or length_wrong desk)
    or_else tickets_answer bridge
    or_else tickets_answer desk
    or_else 36 when not (numbers_rise (tickets_of bridge))
    or_else 37 when not (numbers_rise (tickets_of desk))

-- what comparing comes to: 0 and the four counts, or a refusal's number beside zeros
pub record Reconciliation : Type 0 where
  pub answer : ℕ
  pub alike : ℕ
  pub differing : ℕ
  pub only_bridge : ℕ
  pub only_desk : ℕ

abbrev pub reconciled : (answer alike differing onlyBridge onlyDesk : ℕ) → Reconciliation
reconciled answer alike differing onlyBridge onlyDesk =
    record { answer = answer; alike = alike; differing = differing; only_bridge = onlyBridge; only_desk = onlyDesk }

unfoldable pub counted : (bridge desk : List Ticket) → Reconciliation
counted bridge desk = reconciled 0 (alike_in_both bridge desk) (differing_in_both bridge desk) (only_in_first bridge desk) (only_in_first desk bridge)

unfoldable pub reconciliation : (bridge desk : List ℕ) → Reconciliation
reconciliation bridge desk =
    done (reconcile_answer bridge desk) (counted (tickets_of bridge) (tickets_of desk)) (reconciled (reconcile_answer bridge desk) 0 0 0 0)

-- what the code hands back, as a reconciliation: a refusal has no counts beside it
abbrev pub as_reconciliation : Result Counts Refusal → Reconciliation
as_reconciliation (Ok c) = reconciled 0 c.alike c.differing c.only_bridge c.only_desk
as_reconciliation (Err refusal) = reconciled (number_of refusal) 0 0 0 0
