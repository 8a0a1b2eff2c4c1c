-- Two lists of tickets (4/12): four counts, each the number of ticket numbers with a property.
-- Assumes nothing.
use Rattle.std.specs.Prelude.{ℕ, suc, ◌-◌, Bool, not, List, length, get_or, eqb, ltb}
use Rattle.rules.specs.Loops.{◌and◌, every, some, count}
use Rattle.ticket.specs.declared.Ticket.{Ticket}
use Rattle.ticket.specs.Tickets.{number_limit, no_ticket}

-- how many of the numbers that a ticket can have, 0 to 99,999,999, have a property
abbrev pub numbers_with : (ℕ → Bool) → ℕ
numbers_with property = count (suc number_limit) property

abbrev pub ticket_at : List Ticket → ℕ → Ticket
ticket_at l k = get_or l k no_ticket

abbrev pub number_at : List Ticket → ℕ → ℕ
number_at l k = (ticket_at l k).number

-- tickets are the same where all that they say is
unfoldable pub same_ticket : Ticket → Ticket → Bool
same_ticket t u =
    eqb t.number u.number
    and eqb t.pile u.pile
    and eqb t.tonnes u.tonnes
    and eqb t.kind u.kind
    and eqb t.desk u.desk

-- a number is in a list: some ticket of the list has it; two lists share a number's ticket: some ticket with that number is in both
unfoldable pub has : List Ticket → ℕ → Bool
has l x = some (length l) (λ k. eqb (number_at l k) x)

unfoldable pub shares : List Ticket → List Ticket → ℕ → Bool
shares l m x = some (length l) (λ j. some (length m) (λ k. eqb (number_at l j) x and same_ticket (ticket_at l j) (ticket_at m k)))

-- in both lists with the same ticket; in both with tickets that differ; in the first list only
unfoldable pub alike_in_both : List Ticket → List Ticket → ℕ
alike_in_both l m = numbers_with (λ x. has l x and has m x and shares l m x)

unfoldable pub differing_in_both : List Ticket → List Ticket → ℕ
differing_in_both l m = numbers_with (λ x. has l x and has m x and not (shares l m x))

unfoldable pub only_in_first : List Ticket → List Ticket → ℕ
only_in_first l m = numbers_with (λ x. has l x and not (has m x))

-- each ticket's number is above the one before it
unfoldable pub numbers_rise : List Ticket → Bool
numbers_rise l = every (length l - 1) (λ k. ltb (number_at l k) (number_at l (suc k)))
