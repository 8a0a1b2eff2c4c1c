-- The shares of a given pile, copied among zeros in two runs, are those of its record.
-- Assumes nothing.
use Prim.Native.Nat.{ℕ, ◌+◌, ◌*◌, ◌≤◌, ◌<◌}
use native.Mathlib.Nat.{zero-add}
use native.Mathlib.Omega.{arith}
use mathlib.Core.Path.{◌≡◌, ap, sym, ◌∙◌}
use mathlib.Core.Logic.{inl, inr}
use mathlib.Core.List.{List}
use lib.ListN.{length, get_or, replicate, length-replicate, get_or-replicate}
use lib.Seq.{sets, length-sets}
use Rattle.rules.specs.Loops.{list}
use Rattle.rules.specs.Pile.{Side, draw, tip, Pile}
use Rattle.rules.specs.Layout.{desk_limit}
use Rattle.rules.specs.Record.{padded, record_of, share_places}
use Rattle.rules.proofs.Loops.Parts.{part_is}
use Rattle.rules.proofs.Loops.Pieces.{length_list, getD_list}
use Rattle.rules.proofs.Record.RecordOf.{shares_are}
use Rattle.rules.proofs.Record.Shares.{side_number, share_at}
use Rattle.padding.specs.Copies.{after_copy}
use Rattle.padding.proofs.PaddedRows.{run_out, run_padded}
use Rattle.padding.proofs.CopyLines.{copy_leaves}

-- a run of draw shares from 0 on, and one of tip shares from 8 on
two_runs : (n : ℕ) (p : Pile) → n ≤ 8 → (f g : ℕ → ℕ) → ((j : ℕ) → f j ≡ p.share draw j) → ((j : ℕ) → g j ≡ p.share tip j)
    → sets (sets (replicate share_places 0) 0 (list n f)) desk_limit (list n g) ≡ (record_of n p).shares
two_runs n p n≤8 f g f-is g-is = shares_are n p all (length-sets half 8 (list n g) ∙ long) (λ s j j<8. share_at p.floor p.top all s j ∙ at s j j<8)
  where
    half : List ℕ
    half = sets (replicate share_places 0) 0 (list n f)

    all : List ℕ
    all = sets half 8 (list n g)

    long : length half ≡ share_places
    long = length-sets (replicate share_places 0) 0 (list n f)

    zeros : (k : ℕ) → n ≤ k → k < share_places → get_or half k 0 ≡ 0
    zeros k n≤k k<shares = run_out (replicate share_places 0) 0 n f k (inr (omega arith)) ∙ get_or-replicate share_places k 0 0 k<shares

    at : (s : Side) (j : ℕ) → j < 8 → get_or all (8 * side_number s + j) 0 ≡ padded n (p.share s) j
    at draw j j<8 =
        run_out half 8 n g (8 * 0 + j) (inl (omega arith))
        ∙ ap (λ (k : ℕ). get_or half k 0) (omega arith)
        ∙ run_padded (replicate share_places 0) 0 0 n f (p.share draw) (omega arith) (omega (arith, length-replicate {A = ℕ} share_places 0))
        (λ k _ l. get_or-replicate share_places k 0 0 (omega arith)) (λ j. ap f (zero-add j) ∙ f-is j) j j<8
    at tip j j<8 =
        ap (λ (k : ℕ). get_or all k 0) (omega arith)
        ∙ run_padded half 8 0 n g (p.share tip) (omega arith) (omega (arith, long)) (λ k l m. zeros k (omega arith) (omega arith)) (λ j. ap g (zero-add j) ∙ g-is j) j j<8

-- a run that is copied, number by number
copied : (to : ℕ) (out : List ℕ) (from : ℕ) (l : List ℕ) (count : ℕ) → from + count ≤ length l → to + count ≤ length out
    → after_copy to out from l count ≡ sets out to (list count (λ k. get_or l (from + k) 0))
copied to out from l count there room =
    copy_leaves to out from l count there room
    ∙ ap (sets out to) (part_is from count l (list count f) there (length_list count f) (λ j j<count. sym (getD_list count f 0 j j<count)))
  where
    f : ℕ → ℕ
    f k = get_or l (from + k) 0

-- both, from a list that has them one behind the other
pub copied_shares : (n : ℕ) (p : Pile) (l : List ℕ) (from : ℕ) → n ≤ 8 → from + (n + n) ≤ length l
    → ((j : ℕ) → get_or l (from + j) 0 ≡ p.share draw j) → ((j : ℕ) → get_or l (from + n + j) 0 ≡ p.share tip j)
    → {half all : List ℕ} → half ≡ after_copy 0 (replicate share_places 0) from l n → all ≡ after_copy desk_limit half (from + n) l n
    → all ≡ (record_of n p).shares
copied_shares n p l from n≤8 there draws tips first second =
    let one = first ∙ copied 0 (replicate share_places 0) from l n (omega arith) (omega (arith, length-replicate {A = ℕ} share_places 0)) in
    let room = length-sets (replicate share_places 0) 0 (list n (λ k. get_or l (from + k) 0)) in
    rw one at second
    ∙ copied desk_limit _ (from + n) l n (omega arith) (omega (arith, room, length-replicate {A = ℕ} share_places 0))
    ∙ two_runs n p n≤8 _ _ draws tips
