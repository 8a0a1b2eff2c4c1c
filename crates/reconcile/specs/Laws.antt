-- The laws of the four counts (4/12), for any two lists of tickets, and so of what comparing two lists of bytes hands back.
-- Assumes nothing.
use Rattle.std.specs.Prelude.{ℕ, ◌+◌, ◌≤◌, ◌<◌, ◌≡◌, true, List, length}
use Rattle.ticket.specs.declared.Ticket.{Ticket}
use Rattle.ticket.specs.Tickets.{number_limit}
use Rattle.reconcile.specs.Counts.{number_at, alike_in_both, differing_in_both, only_in_first, numbers_rise}
use Rattle.reconcile.specs.Lists.{Reconciliation, tickets_in, reconcile_answer, reconciled, counted, reconciliation}

-- "each rising strictly by ticket number": the numbers rise, and each is one that a ticket can have
pub record RisingList (l : List Ticket) : Type 0 where
  pub rises : numbers_rise l ≡ true
  pub in_range : (k : ℕ) → k < length l → number_at l k ≤ number_limit

-- Each ticket of the first list is alike, differing or only there.
abbrev pub FirstAddsUp : Type 0
FirstAddsUp = (l m : List Ticket) → RisingList l → alike_in_both l m + differing_in_both l m + only_in_first l m ≡ length l

-- So is each ticket of the second.
abbrev pub SecondAddsUp : Type 0
SecondAddsUp = (l m : List Ticket) → RisingList m → alike_in_both l m + differing_in_both l m + only_in_first m l ≡ length m

-- A list against itself is all alike.
abbrev pub AgainstItself : Type 0
AgainstItself = (l : List Ticket) → RisingList l → counted l l ≡ reconciled 0 (length l) 0 0 0

-- With the lists exchanged the last two counts change places; the lists may be any.
abbrev pub exchanged : Reconciliation → Reconciliation
exchanged r = reconciled r.answer r.alike r.differing r.only_desk r.only_bridge

abbrev pub ListsExchanged : Type 0
ListsExchanged = (l m : List Ticket) → counted m l ≡ exchanged (counted l m)

-- Of what is handed back where nothing is refused: each list's tickets are counted once.
abbrev pub CountsAddUp : Type 0
CountsAddUp =
    (bridge desk : List ℕ) → reconcile_answer bridge desk ≡ 0 → let r = reconciliation bridge desk in
    (r.alike + r.differing + r.only_bridge ≡ tickets_in bridge) × (r.alike + r.differing + r.only_desk ≡ tickets_in desk)
