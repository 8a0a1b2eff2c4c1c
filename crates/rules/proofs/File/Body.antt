-- Reading a body that was written, and writing a body that was read. Both go row by row: a row is its 2(n + 1) numbers in column order.
-- Assumes nothing.
use Prim.Native.Nat.{ℕ, zero, suc, ◌+◌, ◌-◌, ◌*◌, ◌^◌, ◌≤◌, ◌<◌, suc-le-suc}
use native.Mathlib.Nat.{zero-lt-suc, add_assoc, le_of_suc-le-suc}
use native.Mathlib.Decide.{dec_lt}
use native.Mathlib.Omega.{arith}
use mathlib.Core.Path.{◌≡◌, refl, ap, sym, subst, ◌∙◌, ap₂}
use mathlib.Core.Logic.{by_cases}
use mathlib.Core.List.{List, [], ◌∷◌, ◌++◌}
use lib.ListN.{length, get_or, length-append, get_or-append}
use lib.Seq.{get_or-append-add}
use Rattle.rules.specs.Loops.{flat, list}
use Rattle.rules.specs.Numbers.{number, encode, part}
use Rattle.rules.specs.Pile.{Side, draw, tip, Pile}
use Rattle.rules.specs.Layout.{row_length, body_length, cell_at, column, earned_column, view, body_view, row_of, body_row, body_bytes, columns}
use Rattle.rules.proofs.Loops.Sums.{term_le}
use Rattle.rules.proofs.Loops.Pieces.{length_flat, flat_cong, flat_parts, length_list, getD_list, list_cong, list_add}
use Rattle.rules.proofs.Bytes.Numbers.{Octets, number_part, number_flat, length_encode, number_encode, encode_numbers}
use Rattle.rules.proofs.Pile.Facts.{PileFacts, OpeningFacts}
use Rattle.rules.proofs.Pile.Agree.{Agree}
use Rattle.rules.proofs.Loops.Ranges.{piece_within}

-- each number has 4 bytes
abbrev pub Fits4 : ℕ → Type 0
Fits4 x = x < 256 ^ 4

pub record Fits (n : ℕ) (p : Pile) : Type 0 where
  pub floor : Fits4 p.floor
  pub top : Fits4 p.top
  pub share : (s : Side) (i : ℕ) → i < n → Fits4 (p.share s i)
  pub earned : (s : Side) (i : ℕ) → i < n → Fits4 (p.earned s i)
  pub give : (s : Side) (i j : ℕ) → i < n → j < n → Fits4 (p.give s i j)

pub opening_fits : (n : ℕ) (p : Pile) → OpeningFacts n p
    → Fits4 p.floor × Fits4 p.top × ((s : Side) (i : ℕ) → i < n → Fits4 (p.share s i))
opening_fits n p o = (omega (arith, o.floor_top, o.top_limit_lem), omega (arith, o.top_limit_lem), shares)
  where
    shares : (s : Side) (i : ℕ) → i < n → Fits4 (p.share s i)
    shares draw i l = omega (arith, o.floor_top, o.top_limit_lem, o.shares, term_le n i (p.share draw) l)
    shares tip i l = omega (arith, o.floor_top, o.top_limit_lem, o.shares, term_le n i (p.share tip) l)

pub lawful_fits : (n : ℕ) (p : Pile) → PileFacts n p → Fits n p
lawful_fits n p f =
    let o = opening_fits n p f.opening in
    record {
      floor = o.0;
      top = o.1;
      share = o.2;
      earned = λ s i l. omega (arith, f.earned_limit s i l);
      give = λ s i j l m. omega (arith, f.give_limit s i j l m);
    }

-- a row's numbers by column
module _ (n a b : ℕ) (f : Side → ℕ → ℕ) where
  pub length_row : length (row_of n a b f) ≡ columns n
  unfolding row_of
  length_row = omega (arith, length-append (list n (f draw)) (list n (f tip)), length_list n (f draw), length_list n (f tip))

  pub row_column : (s : Side) (j : ℕ) → j < n → get_or (row_of n a b f) (column n s j) 0 ≡ f s j
  unfolding row_of
  row_column draw j l =
      get_or-append-add (a ∷ b ∷ []) (list n (f draw) ++ list n (f tip)) j 0
      ∙ get_or-append (list n (f draw)) (list n (f tip)) 0 j (omega (arith, length_list n (f draw)))
      ∙ getD_list n (f draw) 0 j l
  row_column tip j l =
      get_or-append-add (a ∷ b ∷ []) (list n (f draw) ++ list n (f tip)) (n + j) 0
      ∙ ap (λ (k : ℕ). get_or (list n (f draw) ++ list n (f tip)) (k + j) 0) (sym (length_list n (f draw)))
      ∙ get_or-append-add (list n (f draw)) (list n (f tip)) j 0
      ∙ getD_list n (f tip) 0 j l

-- every column is floor or tipped, top or drawn, or that of a side and a desk
pub by_column : (n : ℕ) (P : ℕ → Type 0) → P 0 → P 1 → ((s : Side) (j : ℕ) → j < n → P (column n s j)) → (c : ℕ) → c < columns n → P c
by_column n P first second rest zero l = first
by_column n P first second rest (suc zero) l = second
by_column n P first second rest (suc (suc c)) l =
    by_cases (dec_lt c n) (λ c<n. subst P (omega arith) (rest draw c c<n))
    (λ c≥n. subst P (omega arith) (rest tip (c - n) (omega arith)))

pub column_below : (n : ℕ) (s : Side) (j : ℕ) → j < n → column n s j < columns n
column_below n draw j l = omega arith
column_below n tip j l = omega arith

pub earned_below : (n : ℕ) (s : Side) → earned_column s < columns n
earned_below n draw = omega arith
earned_below n tip = omega arith

-- the row that is read column by column
pub row_of_columns : (n : ℕ) (g : ℕ → ℕ) → row_of n (g 0) (g 1) (λ s j. g (column n s j)) ≡ list (columns n) g
unfolding row_of list flat
row_of_columns n g =
    sym (list_add 2 (n + n) g ∙ ap (λ (r : List ℕ). list 2 g ++ r) (list_add n n (λ k. g (2 + k))))

pub view_row : (n : ℕ) (cell : ℕ → ℕ → ℕ) (r : ℕ) → body_row n (view n cell) r ≡ list (columns n) (cell r)
unfolding body_row
view_row n cell zero = row_of_columns n (cell 0)
view_row n cell (suc i) = row_of_columns n (cell (suc i))

pub length_numbers : (n : ℕ) (p : Pile) (r : ℕ) → length (body_row n p r) ≡ columns n
unfolding body_row
length_numbers n p zero = length_row n p.floor p.top p.share
length_numbers n p (suc i) = length_row n (p.earned draw i) (p.earned tip i) (λ s. p.give s i)

pub row_length_lem : (n : ℕ) → (columns n) * 4 ≡ row_length n
unfolding row_length
row_length_lem n = omega arith

pub length_body_row : (n : ℕ) (p : Pile) (r : ℕ) → length (encode (body_row n p r)) ≡ row_length n
length_body_row n p r = length_encode (body_row n p r) ∙ ap (λ (m : ℕ). m * 4) (length_numbers n p r) ∙ row_length_lem n

pub body_rows : (n : ℕ) → suc n * row_length n ≡ body_length n
unfolding row_length body_length
body_rows n = omega arith

-- row r lies within its body
pub row_within : (n r : ℕ) → r < suc n → r * row_length n + row_length n ≤ body_length n
row_within n r l = omega (arith, body_rows n, piece_within (row_length n) l)

pub length_body : (n : ℕ) (p : Pile) → length (body_bytes n p) ≡ body_length n
unfolding body_bytes
length_body n p = length_flat (suc n) (row_length n) _ (λ r l. length_body_row n p r) ∙ body_rows n

-- a body that was read is written as it stood
write_row : (n : ℕ) (b : List ℕ) (at r : ℕ) → Octets b → at + r * row_length n + row_length n ≤ length b
    → encode (body_row n (body_view n b at) r) ≡ part (at + r * row_length n) (row_length n) b
unfolding cell_at
write_row n b at r o l =
    ap encode (view_row n (λ row column. number 4 b (at + cell_at n row column)) r
    ∙ list_cong (columns n) (λ c _. ap (number 4 b) (sym (add_assoc at (r * row_length n) (c * 4)))))
    ∙ encode_numbers (columns n) b (at + r * row_length n) o (omega (arith, row_length_lem n))
    ∙ ap (λ (m : ℕ). part (at + r * row_length n) m b) (row_length_lem n)

pub write_body : (n : ℕ) (b : List ℕ) (at : ℕ) → Octets b → at + body_length n ≤ length b
    → body_bytes n (body_view n b at) ≡ part at (body_length n) b
unfolding body_bytes
write_body n b at o l =
    flat_cong (suc n) (λ r r<n. write_row n b at r o
    (omega (arith, row_within n r r<n)))
    ∙ flat_parts (suc n) (row_length n) at b
    ∙ ap (λ (m : ℕ). part at m b) (body_rows n)

-- a body that was written is read again
module _ (n : ℕ) (p : Pile) (fits : Fits n p) (b : List ℕ) (at : ℕ) (written : part at (body_length n) b ≡ body_bytes n p) where
  cell : (r c v : ℕ) → r < suc n → c < columns n → get_or (body_row n p r) c 0 ≡ v → Fits4 v
      → number 4 b (at + cell_at n r c) ≡ v
  unfolding body_bytes cell_at
  cell r c v r<n c<w is fits =
      sym (number_part 4 b at (body_length n) (r * row_length n + c * 4)
      (omega (arith, row_length_lem n, row_within n r r<n)))
      ∙ ap (λ (l : List ℕ). number 4 l (r * row_length n + c * 4)) written
      ∙ number_flat 4 (suc n) (row_length n) _ (λ r _. length_body_row n p r) r (c * 4) r<n (omega (arith, row_length_lem n))
      ∙ number_encode (body_row n p r) c (omega (arith, length_numbers n p r)) (rw is fits)
      ∙ is

  pub read_body : Agree n (body_view n b at) p
  unfolding body_row row_of
  read_body =
      record {
        floor = cell 0 0 _ (zero-lt-suc n) (omega arith) refl fits.floor;
        top = cell 0 1 _ (zero-lt-suc n) (omega arith) refl fits.top;
        share = λ s i l. cell 0 (column n s i) _ (zero-lt-suc n) (column_below n s i l)
            (row_column n p.floor p.top p.share s i l) (fits.share s i l);
        earned = earned;
        give = λ s i j l m. cell (suc i) (column n s j) _ (suc-le-suc l) (column_below n s j m)
            (row_column n (p.earned draw i) (p.earned tip i) (λ s. p.give s i) s j m) (fits.give s i j l m);
      }
    where
      earned : (s : Side) (i : ℕ) → i < n → number 4 b (at + cell_at n (suc i) (earned_column s)) ≡ p.earned s i
      earned draw i l = cell (suc i) 0 _ (suc-le-suc l) (omega arith) refl (fits.earned draw i l)
      earned tip i l = cell (suc i) 1 _ (suc-le-suc l) (omega arith) refl (fits.earned tip i l)

pub row_cong : (n : ℕ) (f g : Side → ℕ → ℕ) → ((s : Side) (j : ℕ) → j < n → f s j ≡ g s j) → {x x' y y' : ℕ} → x ≡ x' → y ≡ y'
    → row_of n x y f ≡ row_of n x' y' g
unfolding row_of
row_cong n f g h e d =
    ap₂ (λ (k : ℕ) (r : List ℕ). k ∷ r) e
    (ap₂ (λ (k : ℕ) (r : List ℕ). k ∷ r) d (ap₂ ◌++◌ (list_cong n (h draw)) (list_cong n (h tip))))

-- the bytes of a pile depend on its numbers alone
module _ (n : ℕ) (p q : Pile) (a : Agree n p q) where
  pub body_row_cong : (r : ℕ) → r < suc n → body_row n p r ≡ body_row n q r
  unfolding body_row
  body_row_cong zero l = row_cong n p.share q.share a.share a.floor a.top
  body_row_cong (suc i) l =
      let m : i < n = le_of_suc-le-suc l in
      row_cong n (λ s. p.give s i) (λ s. q.give s i) (λ s j. a.give s i j m) (a.earned draw i m) (a.earned tip i m)

  pub body_cong : body_bytes n p ≡ body_bytes n q
  unfolding body_bytes
  body_cong = flat_cong (suc n) (λ r l. ap encode (body_row_cong r l))
