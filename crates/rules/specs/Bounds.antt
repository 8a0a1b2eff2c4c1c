-- What a desk can be sure of (1/12). Its book has only the acts that it holds; however the others have acted meanwhile, the tonnage by all acts made
-- lies between its least and its most. In the field's terms they are local bounds of the global value.
-- Assumes nothing.
use Rattle.std.specs.Prelude.{ℕ, ◌+◌, ◌-◌, List}
use Rattle.rules.specs.Refusals.{Reply, reply}
use Rattle.rules.specs.Pile.{Side, draw, tip, Pile, rights}
use Rattle.rules.specs.Layout.{desks, pile_of}
use Rattle.rules.specs.Book.{place, desk_answer}
use Rattle.rules.specs.Record.{Record, record_view, record_desk_answer}

-- floor + its draw rights
unfoldable pub least : ℕ → Pile → ℕ → ℕ
least n p i = p.floor + rights n p draw i

-- top - its tip rights
unfoldable pub most : ℕ → Pile → ℕ → ℕ
most n p i = p.top - rights n p tip i

-- the bound that a desk's rights of a side keep: nobody else can draw what it may draw, nor fill the space that it may fill
abbrev pub bound : ℕ → Pile → Side → ℕ → ℕ
bound n p draw i = least n p i
bound n p tip i = most n p i

-- asked of a book and of a record: refused as rights are
unfoldable pub bound_reply : Side → ℕ → List ℕ → ℕ → Reply
bound_reply s i b number = reply (desk_answer i b number) (bound (desks b) (pile_of b (place b number)) s i)

unfoldable pub record_bound_reply : Side → ℕ → Record → Reply
record_bound_reply s i r = reply (record_desk_answer i r) (bound r.n (record_view r) s i)
