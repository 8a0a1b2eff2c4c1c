-- A pile record in memory: n, floor, top, and all 8 rows and 8 shares of each kind, those past n being zero.
-- Assumes nothing.
use Rattle.std.specs.Prelude.{ℕ, zero, suc, ◌+◌, ◌*◌, ◌≡◌, Bool, cond, not, List, ◌∷◌, ◌++◌, length, get_or, set, replicate, leb, ltb, eqb}
use Rattle.std.proofs.lemmas.List.Edits.{sets}
use Rattle.rules.specs.Loops.{◌and◌, ◌or◌, between, every, flat, list}
use Rattle.rules.specs.Refusals.{◌when◌, ◌or_else◌, done, Reply, reply}
use Rattle.rules.specs.Numbers.{Octets}
use Rattle.rules.specs.Pile.{Side, draw, tip, both_sides, Pile, opening_lawful, tallies_lawful, lawful, same_opening, rights, tonnage}
use Rattle.rules.specs.Acts.{Kind, tally, act_refusal}
use Rattle.rules.specs.Layout.{head_of, desk_limit, columns, act_column, view, body_view, desks, pile_of, body_length, body_at, body_bytes}
use Rattle.rules.specs.Book.{place, fetch_answer, desk_answer}

-- The flat arrays: the share of side s and desk j stands at 8s + j; row i of the tallies at i * rowPlaces, its columns as in a body of 8 desks.
pub record Record : Type 0 where
  pub n : ℕ
  pub floor : ℕ
  pub top : ℕ
  pub shares : List ℕ
  pub tallies : List ℕ

abbrev pub row_places : ℕ
row_places = columns desk_limit

-- where a row's tip gives start, and how many shares and tallies a record has
abbrev pub tips_place : ℕ
tips_place = 2 + desk_limit

abbrev pub share_places : ℕ
share_places = 2 * desk_limit

abbrev pub tally_places : ℕ
tally_places = desk_limit * row_places

abbrev pub record_cell : Record → ℕ → ℕ → ℕ
record_cell r zero c = get_or (r.floor ∷ r.top ∷ r.shares) c 0
record_cell r (suc i) c = get_or r.tallies (i * row_places + c) 0

abbrev pub record_view : Record → Pile
record_view r = view desk_limit (record_cell r)

-- shares past n are 0; so are the tallies of desks past n, and the gives to them
abbrev pub both_zero : (Side → ℕ) → Bool
both_zero f = both_sides (λ s. eqb (f s) 0)

unfoldable pub unused_shares : ℕ → Pile → Bool
unused_shares n p = every desk_limit (λ j. ltb j n or both_zero (λ s. p.share s j))

unfoldable pub unused_places : ℕ → Pile → Bool
unused_places n p =
    every desk_limit (λ i. (ltb i n or both_zero (λ s. p.earned s i))
    and every desk_limit (λ j. (ltb i n and ltb j n) or both_zero (λ s. p.give s i j)))

-- numbers for n desks, and 0 at the places past n
abbrev pub padded : ℕ → (ℕ → ℕ) → ℕ → ℕ
padded n f j = cond (ltb j n) (f j) 0

-- "Pile record alone": 2, 5, 6 and 7
unfoldable pub record_answer : Record → ℕ
record_answer r =
    2 when not (between 1 desk_limit r.n)
    or_else 5 when not (opening_lawful r.n (record_view r) and unused_shares r.n (record_view r))
    or_else 6 when not (every r.n (tallies_lawful r.n (record_view r)) and unused_places r.n (record_view r))
    or_else 7 when not (lawful r.n (record_view r))

abbrev pub zero_tallies : List ℕ
zero_tallies = replicate tally_places 0

abbrev pub zero_record : Record
zero_record = record { n = 0; floor = 0; top = 0; shares = replicate share_places 0; tallies = zero_tallies }

-- a fresh record, from n, floor, top and shares alone: all zeros where it is refused
abbrev pub fresh : ℕ → ℕ → ℕ → List ℕ → Record
fresh n floor top shares = record { n = n; floor = floor; top = top; shares = shares; tallies = zero_tallies }

unfoldable pub fresh_answer : ℕ → ℕ → ℕ → List ℕ → ℕ
fresh_answer n floor top shares = record_answer (fresh n floor top shares)

unfoldable pub fresh_record : ℕ → ℕ → ℕ → List ℕ → Record
fresh_record n floor top shares = done (fresh_answer n floor top shares) (fresh n floor top shares) zero_record

unfoldable pub record_tonnage_reply : Record → Reply
record_tonnage_reply r = reply (record_answer r) (tonnage r.n (record_view r))

-- "Act or rights query": the record's own, then 11
unfoldable pub record_desk_answer : ℕ → Record → ℕ
record_desk_answer i r = record_answer r or_else 11 when not (ltb i r.n)

unfoldable pub record_rights_reply : Side → ℕ → Record → Reply
record_rights_reply s i r = reply (record_desk_answer i r) (rights r.n (record_view r) s i)

-- an act of desk i, and the record after it: unaltered where it is refused
unfoldable pub record_act_answer : ℕ → Kind → ℕ → Record → ℕ
record_act_answer i kind t r = record_desk_answer i r or_else act_refusal r.n (record_view r) i kind t

unfoldable pub record_after_act : ℕ → Kind → ℕ → Record → Record
record_after_act i kind t r =
    done (record_act_answer i kind t r)
    (record {
      n = r.n;
      floor = r.floor;
      top = r.top;
      shares = r.shares;
      tallies = set r.tallies (i * row_places + act_column desk_limit kind) (tally (record_view r) i kind + t);
    })
    r

-- row i of a pile of n desks, as a record has it; then the whole record
unfoldable pub padded_row : ℕ → Pile → ℕ → List ℕ
padded_row n p i =
    padded n (p.earned draw) i ∷ padded n (p.earned tip) i
    ∷ (list desk_limit (λ j. padded n (λ i. padded n (p.give draw i) j) i)
    ++ list desk_limit (λ j. padded n (λ i. padded n (p.give tip i) j) i))

unfoldable pub record_of : ℕ → Pile → Record
record_of n p =
    record {
      n = n;
      floor = p.floor;
      top = p.top;
      shares = list desk_limit (padded n (p.share draw)) ++ list desk_limit (padded n (p.share tip));
      tallies = flat desk_limit (padded_row n p);
    }

-- the record of the body of n desks that starts at a position: all zeros where no such body is there
unfoldable pub body_record : ℕ → List ℕ → ℕ → Record
body_record n b at = cond (between 1 desk_limit n and leb (at + body_length n) (length b)) (record_of n (body_view n b at)) zero_record

-- fetching a pile: all zeros where it is refused
unfoldable pub fetched : List ℕ → ℕ → Record
fetched b number = done (fetch_answer b number) (record_of (desks b) (pile_of b (place b number))) zero_record

-- where a desk's call finds the body of a pile, and of how many desks it is; 0 where the call is refused
unfoldable pub desk_start : ℕ → List ℕ → ℕ → ℕ
desk_start i b number = done (desk_answer i b number) (body_at (head_of b) (place b number)) 0

unfoldable pub desk_count : ℕ → List ℕ → ℕ → ℕ
desk_count i b number = done (desk_answer i b number) (desks b) 0

-- storing a pile: the book's own, 10, the record's own, then 30
unfoldable pub store_answer : List ℕ → ℕ → Record → ℕ
store_answer b number r =
    fetch_answer b number
    or_else record_answer r
    or_else 30 when not (eqb r.n (desks b) and same_opening (desks b) (record_view r) (pile_of b (place b number)))

unfoldable pub after_store : List ℕ → ℕ → Record → List ℕ
after_store b number r =
    done (store_answer b number r)
    (sets b (body_at (head_of b) (place b number)) (body_bytes (desks b) (record_view r))) b

-- Fetching a pile and storing it again restores the file, byte for byte.
abbrev pub FetchStore : Type 0
FetchStore =
    (b : List ℕ) (number : ℕ) → Octets b → fetch_answer b number ≡ 0
    → (store_answer b number (fetched b number) ≡ 0) × (after_store b number (fetched b number) ≡ b)

-- A stored pile is fetched unaltered. A record in memory has its two arrays.
pub record InMemory (r : Record) : Type 0 where
  pub shares_long : length r.shares ≡ share_places
  pub tallies_long : length r.tallies ≡ tally_places

abbrev pub StoreFetch : Type 0
StoreFetch =
    (b : List ℕ) (number : ℕ) (r : Record) → Octets b → InMemory r → store_answer b number r ≡ 0
    → (fetch_answer (after_store b number r) number ≡ 0) × (fetched (after_store b number r) number ≡ r)
