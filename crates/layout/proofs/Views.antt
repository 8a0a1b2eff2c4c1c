-- A body where it stands: its numbers lie within the bytes, and are those of a body with which the bytes from there on start.
-- Assumes nothing.
use Prim.Native.Nat.{ℕ, zero, suc, ◌+◌, ◌-◌, ◌*◌, ◌≤◌, ◌<◌}
use native.Mathlib.Omega.{arith}
use mathlib.Core.Path.{◌≡◌, refl, ap, ap₂, ◌∙◌, fun_ext}
use mathlib.Core.List.{List}
use lib.ListN.{length, drop, length-drop}
use lib.Seq.{take_all, get_or-drop}
use Rattle.rules.specs.Numbers.{number}
use Rattle.rules.specs.Layout.{columns, cell_at, view, body_view}
use Rattle.rules.proofs.File.Cells.{cell_fits}
use Rattle.layout.specs.Inner.{BodyWithin, first_body, rest}

pub number_from : (w : ℕ) (b : List ℕ) (at k : ℕ) → number w (drop at b) k ≡ number w b (at + k)
unfolding number
number_from zero b at k = refl
number_from (suc w) b at k =
    let next : at + suc k ≡ suc (at + k) = omega arith in
    ap₂ (λ (x y : ℕ). x + 256 * y) (get_or-drop at b k 0) (number_from w b at (suc k) ∙ ap (number w b) next)

rest_is : (at : ℕ) (b : List ℕ) → rest at b ≡ drop at b
rest_is at b = take_all (length b - at) (drop at b) (omega (arith, length-drop at b))

pub view_from : (n : ℕ) (b : List ℕ) (at : ℕ) → first_body n (rest at b) ≡ body_view n b at
view_from n b at =
    ap (first_body n) (rest_is at b) ∙ ap (view n) (fun_ext (λ row. fun_ext (λ column. number_from 4 b at (cell_at n row column))))

module _ {n at : ℕ} {b : List ℕ} (body : BodyWithin n at b) where
  pub cell_within : {row column : ℕ} → row ≤ n → column < columns n → at + cell_at n row column + 4 ≤ length b
  cell_within {row} {column} r c = omega (arith, body.within, cell_fits n row column (omega arith) c)
