-- Cases a to j of document 01, G's least and most (1/12) and what takes of it report (5/12), as one table under one theorem, on the bytes of F and G.
-- Assumes nothing.
use Prim.Native.Nat.{ℕ}
use mathlib.Core.Path.{refl}
use mathlib.Core.List.{List, [], ◌∷◌, ◌++◌}
use Rattle.rules.specs.Pile.{draw, tip}
use Rattle.rules.specs.Acts.{Kind, spend, give}
use Rattle.rules.specs.Opening.{opening_answer, opened}
use Rattle.rules.specs.Book.{tonnage_reply, rights_reply, act_answer}
use Rattle.rules.specs.Bounds.{bound_reply}
use Rattle.rules.specs.Take.{take_answer}
use Rattle.rules.proofs.Cases.Table.{Case, case, AllHold, all_hold, shown, takes, act_on, enter, open_loops, open_refusals, open_numbers, open_pile, open_acts, open_layout, open_rows, open_opening, open_book, open_take, open_bounds}

-- the worked book F: 3 desks, pile 7, floor 10, top 110, draw shares 0, 0, 0, tip shares 40, 30, 30
abbrev pub F : List ℕ
F =
    1 ∷ 3 ∷ 1 ∷ 0 ∷ 7 ∷ 0 ∷ 10 ∷ 0 ∷ 0 ∷ 0
    ∷ 10 ∷ 0 ∷ 0 ∷ 0 ∷ 110 ∷ 0 ∷ 0 ∷ 0 ∷ 0 ∷ 0 ∷ 0 ∷ 0 ∷ 0 ∷ 0 ∷ 0 ∷ 0 ∷ 0 ∷ 0 ∷ 0 ∷ 0 ∷ 40 ∷ 0 ∷ 0 ∷ 0 ∷ 30 ∷ 0 ∷ 0 ∷ 0 ∷ 30 ∷ 0 ∷ 0 ∷ 0
    ∷ 0 ∷ 0 ∷ 0 ∷ 0 ∷ 0 ∷ 0 ∷ 0 ∷ 0 ∷ 0 ∷ 0 ∷ 0 ∷ 0 ∷ 0 ∷ 0 ∷ 0 ∷ 0 ∷ 0 ∷ 0 ∷ 0 ∷ 0 ∷ 0 ∷ 0 ∷ 0 ∷ 0 ∷ 0 ∷ 0 ∷ 0 ∷ 0 ∷ 0 ∷ 0 ∷ 0 ∷ 0
    ∷ 0 ∷ 0 ∷ 0 ∷ 0 ∷ 0 ∷ 0 ∷ 0 ∷ 0 ∷ 0 ∷ 0 ∷ 0 ∷ 0 ∷ 0 ∷ 0 ∷ 0 ∷ 0 ∷ 0 ∷ 0 ∷ 0 ∷ 0 ∷ 0 ∷ 0 ∷ 0 ∷ 0 ∷ 0 ∷ 0 ∷ 0 ∷ 0 ∷ 0 ∷ 0 ∷ 0 ∷ 0
    ∷ 0 ∷ 0 ∷ 0 ∷ 0 ∷ 0 ∷ 0 ∷ 0 ∷ 0 ∷ 0 ∷ 0 ∷ 0 ∷ 0 ∷ 0 ∷ 0 ∷ 0 ∷ 0 ∷ 0 ∷ 0 ∷ 0 ∷ 0 ∷ 0 ∷ 0 ∷ 0 ∷ 0 ∷ 0 ∷ 0 ∷ 0 ∷ 0 ∷ 0 ∷ 0 ∷ 0 ∷ 0
    ∷ []

-- and G, which the acts of the table's second row leave
abbrev pub G : List ℕ
G =
    1 ∷ 3 ∷ 1 ∷ 0 ∷ 7 ∷ 0 ∷ 10 ∷ 0 ∷ 0 ∷ 0
    ∷ 10 ∷ 0 ∷ 0 ∷ 0 ∷ 110 ∷ 0 ∷ 0 ∷ 0 ∷ 0 ∷ 0 ∷ 0 ∷ 0 ∷ 0 ∷ 0 ∷ 0 ∷ 0 ∷ 0 ∷ 0 ∷ 0 ∷ 0 ∷ 40 ∷ 0 ∷ 0 ∷ 0 ∷ 30 ∷ 0 ∷ 0 ∷ 0 ∷ 30 ∷ 0 ∷ 0 ∷ 0
    ∷ 30 ∷ 0 ∷ 0 ∷ 0 ∷ 5 ∷ 0 ∷ 0 ∷ 0 ∷ 0 ∷ 0 ∷ 0 ∷ 0 ∷ 10 ∷ 0 ∷ 0 ∷ 0 ∷ 10 ∷ 0 ∷ 0 ∷ 0 ∷ 0 ∷ 0 ∷ 0 ∷ 0 ∷ 0 ∷ 0 ∷ 0 ∷ 0 ∷ 0 ∷ 0 ∷ 0 ∷ 0
    ∷ 1 ∷ 0 ∷ 0 ∷ 0 ∷ 4 ∷ 0 ∷ 0 ∷ 0 ∷ 0 ∷ 0 ∷ 0 ∷ 0 ∷ 0 ∷ 0 ∷ 0 ∷ 0 ∷ 0 ∷ 0 ∷ 0 ∷ 0 ∷ 0 ∷ 0 ∷ 0 ∷ 0 ∷ 0 ∷ 0 ∷ 0 ∷ 0 ∷ 0 ∷ 0 ∷ 0 ∷ 0
    ∷ 0 ∷ 0 ∷ 0 ∷ 0 ∷ 2 ∷ 0 ∷ 0 ∷ 0 ∷ 0 ∷ 0 ∷ 0 ∷ 0 ∷ 0 ∷ 0 ∷ 0 ∷ 0 ∷ 0 ∷ 0 ∷ 0 ∷ 0 ∷ 0 ∷ 0 ∷ 0 ∷ 0 ∷ 0 ∷ 0 ∷ 0 ∷ 0 ∷ 0 ∷ 0 ∷ 0 ∷ 0
    ∷ []

abbrev answers : ℕ → Kind → List ℕ → List ℕ → List ℕ
answers i kind [] b = []
answers i kind (t ∷ ts) b = act_answer i (act_on 7 kind t) b ∷ answers i kind ts b

abbrev pub table : List Case
table =
    -- the worked book: the opening writes F, and its acts leave G, whose value is 30 by Figure 1's formula
    case "F is what its opening writes"
    (opening_answer 3 1 (7 ∷ 10 ∷ 110 ∷ 0 ∷ 0 ∷ 0 ∷ 40 ∷ 30 ∷ 30 ∷ []) 138 ∷ opened 3 1 (7 ∷ 10 ∷ 110 ∷ 0 ∷ 0 ∷ 0 ∷ 40 ∷ 30 ∷ 30 ∷ []))
    (0 ∷ F)
    ∷ case "G is F after: desk 0 tips 30, desk 1 tips 1, desk 0 gives draw 10 to desks 1 and 2, desks 0, 1 and 2 draw 5, 4 and 2"
    (enter 2 7 (spend draw) 2
    (enter 1 7 (spend draw) 4
    (enter 0 7 (spend draw) 5
    (enter 0 7 (give draw 2) 10 (enter 0 7 (give draw 1) 10 (enter 1 7 (spend tip) 1 (enter 0 7 (spend tip) 30 F)))))))
    G
    ∷ case "G known 30" (shown (tonnage_reply G 7)) (0 ∷ 30 ∷ [])
    ∷ case "G: of desks 0, 1 and 2 least 15, 17 and 18, most 95, 77 and 78"
    (shown (bound_reply draw 0 G 7)
    ++ shown (bound_reply draw 1 G 7)
    ++ shown (bound_reply draw 2 G 7)
    ++ shown (bound_reply tip 0 G 7)
    ++ shown (bound_reply tip 1 G 7)
    ++ shown (bound_reply tip 2 G 7))
    (0 ∷ 15 ∷ 0 ∷ 17 ∷ 0 ∷ 18 ∷ 0 ∷ 95 ∷ 0 ∷ 77 ∷ 0 ∷ 78 ∷ [])
    ∷ case "a: F known 10" (shown (tonnage_reply F 7)) (0 ∷ 10 ∷ [])
    ∷ case "b: F, desk 0 draws 1: 14" (answers 0 (spend draw) (1 ∷ []) F) (14 ∷ [])
    ∷ case "c: F, desk 0 tips 40: known 50, tip rights 0"
    (shown (tonnage_reply (enter 0 7 (spend tip) 40 F) 7) ++ shown (rights_reply tip 0 (enter 0 7 (spend tip) 40 F) 7))
    (0 ∷ 50 ∷ 0 ∷ 0 ∷ [])
    ∷ case "d: F, desk 0 tips 41: 14" (answers 0 (spend tip) (41 ∷ []) F) (14 ∷ [])
    ∷ case "e: G, desk 0 gives draw 5 to desk 1: draw rights 0 and 12; giving 6: 14"
    (shown (rights_reply draw 0 (enter 0 7 (give draw 1) 5 G) 7)
    ++ shown (rights_reply draw 1 (enter 0 7 (give draw 1) 5 G) 7)
    ++ answers 0 (give draw 1) (6 ∷ []) G)
    (0 ∷ 0 ∷ 0 ∷ 12 ∷ 14 ∷ [])
    ∷ case "f: G, desk 0 gives to itself: 12" (answers 0 (give draw 0) (1 ∷ []) G ++ answers 0 (give tip 0) (1 ∷ []) G) (12 ∷ 12 ∷ [])
    ∷ case "g: amounts 0 and 1,001: 13; 1,000 from G: 14"
    (answers 0 (spend tip) (0 ∷ 1001 ∷ 1000 ∷ []) G
    ++ answers 0 (spend draw) (0 ∷ 1001 ∷ 1000 ∷ []) G
    ++ answers 0 (give draw 1) (0 ∷ 1001 ∷ 1000 ∷ []) G
    ++ answers 0 (give tip 1) (0 ∷ 1001 ∷ 1000 ∷ []) G)
    (13 ∷ 13 ∷ 14 ∷ 13 ∷ 13 ∷ 14 ∷ 13 ∷ 13 ∷ 14 ∷ 13 ∷ 13 ∷ 14 ∷ [])
    ∷ case "h: desk 0 takes F into G: G unaltered, reports 0" (takes 0 G F) (0 ∷ 0 ∷ G)
    ∷ case "G taken into itself adds nothing, reports 0" (takes 0 G G) (0 ∷ 0 ∷ G)
    ∷ case "desk 0 takes G into F with its own acts of G: news of two desks on one pile, reports 2"
    (takes 0 (enter 0 7 (spend draw) 5 (enter 0 7 (give draw 2) 10 (enter 0 7 (give draw 1) 10 (enter 0 7 (spend tip) 30 F)))) G)
    (0 ∷ 2 ∷ G)
    ∷ case "i: desk 2 takes G into F: 32, reports 0" (takes 2 F G) (32 ∷ 0 ∷ F)
    ∷ case "j: desk 1 takes 'F, desk 0 tips 30' into 'F, desk 0 tips 10, gives tip 5 to desk 1': 31"
    (take_answer 1 (enter 0 7 (give tip 1) 5 (enter 0 7 (spend tip) 10 F)) (enter 0 7 (spend tip) 30 F) ∷ [])
    (31 ∷ [])
    ∷ []

pub cases_hold : AllHold table
unfolding open_loops open_refusals open_numbers open_pile open_acts open_layout open_rows open_opening open_book open_take open_bounds
cases_hold = all_hold table refl
