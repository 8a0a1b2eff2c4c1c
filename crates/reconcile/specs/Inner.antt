-- What the functions inside the crate promise each other of the walk over two lists of tickets: at each list it has a cursor. No promise of the crate's own
-- cites these.
-- Assumes nothing.
use Rattle.std.specs.Prelude.{ℕ, suc, ◌+◌, ◌*◌, ◌/◌, ◌%◌, ◌≤◌, ◌<◌, ◌≡◌, Bool, true, cond, not, List, length, ltb}
use Rattle.rules.specs.Loops.{◌and◌, every, count}
use Rattle.rules.specs.Refusals.{first}
use Rattle.refusal.specs.Answers.{answered}
use Rattle.ticket.specs.declared.Ticket.{Ticket}
use Rattle.ticket.specs.Tickets.{Reading, ticket_length, number_limit, as_ticket, handed_back, reading}
use Rattle.reconcile.specs.declared.cursor.Cursor.{Cursor}
use Rattle.reconcile.specs.declared.walk.Walk.{Walk}
use Rattle.reconcile.specs.Counts.{number_at, has, shares, numbers_rise}
use Rattle.reconcile.specs.Lists.{list_limit, tickets_in, ticket_part, tickets_of, tickets_answer}

-- the end of a list: above the number of every ticket
abbrev pub end_ticket : Ticket
end_ticket = as_ticket (suc number_limit) 0 0 0 0

-- what is read at place k of a list: its ticket, or behind the last one the end
unfoldable pub read_at : List ℕ → ℕ → Reading
read_at b k = cond (ltb k (tickets_in b)) (reading (ticket_part b k)) (handed_back 0 end_ticket)

-- What a cursor says: its list and where it is there, the number of the first refusal among the tickets up to it, whether their numbers rise, and the ticket.
pub record Place : Type 0 where
  pub list : List ℕ
  pub at : ℕ
  pub answer : ℕ
  pub rises : Bool
  pub head : Ticket

abbrev pub as_place : Cursor → Place
as_place c = record { list = c.list.now; at = c.at; answer = answered c.answer; rises = c.rises; head = c.head }

-- place k of a list
unfoldable pub place_at : List ℕ → ℕ → Place
place_at b k =
    record {
      list = b;
      at = k * ticket_length;
      answer = first (suc k) (λ j. (read_at b j).answer);
      rises = every k (λ j. ltb (read_at b j).ticket.number (read_at b (suc j)).ticket.number);
      head = (read_at b k).ticket;
    }

-- a cursor at a place of a list whose length is right
pub record Standing (b : List ℕ) (c : Cursor) : Type 0 where
  pub whole : length b % ticket_length ≡ 0
  pub short : length b ≤ list_limit * ticket_length
  pub within : c.at ≤ length b
  pub is_at : as_place c ≡ place_at b (c.at / ticket_length)

-- the number at place k of a list, or behind the last ticket that of the end
abbrev pub next_number : List Ticket → ℕ → ℕ
next_number l k = cond (ltb k (length l)) (number_at l k) end_ticket.number

-- One list beside another: its first j tickets are passed, and k of the other's. Their numbers are below the other's next one, and are counted.
pub record PassedTickets (l m : List Ticket) (j k alike differing only : ℕ) : Type 0 where
  pub below : (i : ℕ) → i < j → number_at l i < next_number m k
  pub alike_is : alike ≡ count j (λ i. has m (number_at l i) and shares l m (number_at l i))
  pub differing_is : differing ≡ count j (λ i. has m (number_at l i) and not (shares l m (number_at l i)))
  pub only_is : only ≡ count j (λ i. not (has m (number_at l i)))

-- nothing is wrong with a list's tickets and their order
pub record Sound (b : List ℕ) : Type 0 where
  pub tickets_right : tickets_answer b ≡ 0
  pub rises : numbers_rise (tickets_of b) ≡ true

-- the walk as one of the lists has it; where something is wrong with a list, the counts say nothing
pub record ListWalked (own other : List ℕ) (c d : Cursor) (alike differing only : ℕ) : Type 0 where
  pub standing : Standing own c
  pub adds_up : alike + differing + only ≡ c.at / ticket_length
  pub passed : Sound own → Sound other
      → PassedTickets (tickets_of own) (tickets_of other) (c.at / ticket_length) (d.at / ticket_length) alike differing only

-- and as both have it
pub record Walked (bridge desk : List ℕ) (w : Walk) : Type 0 where
  pub of_bridge : ListWalked bridge desk w.bridge w.desk w.counts.alike w.counts.differing w.counts.only_bridge
  pub of_desk : ListWalked desk bridge w.desk w.bridge w.counts.alike w.counts.differing w.counts.only_desk
