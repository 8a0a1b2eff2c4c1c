-- Packed decimal, over any width: a number that was written is read again, and bytes with right digits that were read are written as they stood. So each
-- number below 100^w has just one packed form.
-- Assumes nothing.
use Prim.Native.Nat.{ℕ, zero, suc, ◌+◌, ◌-◌, ◌*◌, ◌/◌, ◌%◌, ◌^◌, ◌≤◌, ◌<◌}
use native.Mathlib.Nat.{le_refl, le_of_eq, le_step, zero-add, div-lt_iff_lt-mul, mod-lt, pow-suc}
use native.Mathlib.Omega.{arith}
use native.Mathlib.Numerals.{add-one}
use mathlib.Core.Path.{◌≡◌, refl, ap, ap₂, sym, subst, ◌∙◌}
use mathlib.Core.Bool.{true}
use mathlib.Core.List.{List, [], ◌∷◌, ◌++◌}
use lib.ListN.{length, get_or, set, take, drop, length-append, length-drop, get_or-append}
use lib.Dec.{lit<}
use lib.Seq.{slice, length-slice, sets, length-sets, set_comm, get_or_at, take-suc, get_or-take, get_or-drop, take_all}
use borrow.Author.Tests.{leb-true, le-leb}
use Rattle.rules.specs.Loops.{◌and◌, every}
use Rattle.rules.specs.Numbers.{part}
use Rattle.rules.proofs.Loops.Logic.{and_left, and_right, and_both}
use Rattle.rules.proofs.Loops.Every.{every_cong}
use Rattle.rules.proofs.Loops.Sets.{part_sets, sets_append}
use Rattle.ticket.specs.Packed.{pair_number, pair_byte, pair_right, packed_number, packed_bytes, digits_right}
use Rattle.ticket.specs.Laws.{PackedForm, OnePackedForm}

-- one byte
pair_read : (x : ℕ) → x < 100 → pair_number (pair_byte x) ≡ x
pair_read x l = omega arith

pair_right_lem : (x : ℕ) → x < 100 → pair_right (pair_byte x) ≡ true
unfolding pair_right
pair_right_lem x l = and_both (le-leb (pair_byte x / 16) 9 (omega arith)) (le-leb (pair_byte x % 16) 9 (omega arith))

right_digits : (b : ℕ) → pair_right b ≡ true → (b / 16 ≤ 9) × (b % 16 ≤ 9)
unfolding pair_right
right_digits b e = (leb-true _ _ (and_left _ _ e), leb-true _ _ (and_right _ _ e))

pair_below : (b : ℕ) → pair_right b ≡ true → pair_number b < 100
pair_below b e = let d = right_digits b e in omega (arith, d.0, d.1)

pair_written : (b : ℕ) → pair_right b ≡ true → pair_byte (pair_number b) ≡ b
pair_written b e = let d = right_digits b e in omega (arith, d.0, d.1)

length_packed : (w x : ℕ) → length (packed_bytes w x) ≡ w
unfolding packed_bytes
length_packed zero x = refl
length_packed (suc w) x = length-append (packed_bytes w (x / 100)) _ ∙ omega (arith, length_packed w (x / 100))

-- what packed bytes say depends on these bytes alone
module _ (b b' : List ℕ) (at at' : ℕ) where
  packed_cong : (w : ℕ) → ((j : ℕ) → j < w → get_or b (at + j) 0 ≡ get_or b' (at' + j) 0) → packed_number w b at ≡ packed_number w b' at'
  unfolding packed_number
  packed_cong zero h = refl
  packed_cong (suc w) h = ap₂ (λ (x y : ℕ). 100 * x + pair_number y) (packed_cong w (λ j l. h j (le_step l))) (h w (le_refl (suc w)))

  right_cong : (w : ℕ) → ((j : ℕ) → j < w → get_or b (at + j) 0 ≡ get_or b' (at' + j) 0) → digits_right w b at ≡ digits_right w b' at'
  unfolding digits_right
  right_cong w h = every_cong w (λ j l. ap pair_right (h j l))

-- a part that is lent says what its bytes say where they stand
module _ (b : List ℕ) (at w : ℕ) (within : at + w ≤ length b) where
  whole : length (slice at (at + w) b) ≡ w
  whole = length-slice at (at + w) b within ∙ omega arith

  in_part : (j : ℕ) → j < w → get_or (slice at (at + w) b) (0 + j) 0 ≡ get_or b (at + j) 0
  in_part j l =
      get_or-drop at (take (at + w) b) (0 + j) 0
      ∙ get_or-take (at + w) b (at + (0 + j)) 0 (omega arith)
      ∙ ap (λ (i : ℕ). get_or b (at + i) 0) (zero-add j)

  lent_number : packed_number (length (slice at (at + w) b)) (slice at (at + w) b) 0 ≡ packed_number w b at
  lent_number = ap (λ (n : ℕ). packed_number n (slice at (at + w) b) 0) whole ∙ packed_cong (slice at (at + w) b) b 0 at w in_part

  lent_right : digits_right (length (slice at (at + w) b)) (slice at (at + w) b) 0 ≡ digits_right w b at
  lent_right = ap (λ (n : ℕ). digits_right n (slice at (at + w) b) 0) whole ∙ right_cong (slice at (at + w) b) b 0 at w in_part

-- so it is with the fields of a ticket
module _ (b : List ℕ) (e : length b ≡ 11) where
  pub number_lent : packed_number (length (slice 0 4 b)) (slice 0 4 b) 0 ≡ packed_number 4 b 0
  number_lent = lent_number b 0 4 (omega (arith, e))

  pub number_right : digits_right (length (slice 0 4 b)) (slice 0 4 b) 0 ≡ digits_right 4 b 0
  number_right = lent_right b 0 4 (omega (arith, e))

  pub pile_lent : packed_number (length (slice 4 7 b)) (slice 4 7 b) 0 ≡ packed_number 3 b 4
  pile_lent = lent_number b 4 3 (omega (arith, e))

  pub pile_right : digits_right (length (slice 4 7 b)) (slice 4 7 b) 0 ≡ digits_right 3 b 4
  pile_right = lent_right b 4 3 (omega (arith, e))

  pub tonnes_lent : packed_number (length (slice 7 9 b)) (slice 7 9 b) 0 ≡ packed_number 2 b 7
  tonnes_lent = lent_number b 7 2 (omega (arith, e))

  pub tonnes_right : digits_right (length (slice 7 9 b)) (slice 7 9 b) 0 ≡ digits_right 2 b 7
  tonnes_right = lent_right b 7 2 (omega (arith, e))

pub ruleset fields_lent = (tonnes_right, tonnes_lent, pile_right, pile_lent, number_right, number_lent)

-- a number that was written is read again
last_byte : (w x : ℕ) → get_or (packed_bytes (suc w) x) (0 + w) 0 ≡ pair_byte (x % 100)
unfolding packed_bytes
last_byte w x = get_or_at (packed_bytes w (x / 100)) _ [] 0 (0 + w) (length_packed w (x / 100) ∙ sym (zero-add w))

other_bytes : (w x j : ℕ) → j < w → get_or (packed_bytes (suc w) x) (0 + j) 0 ≡ get_or (packed_bytes w (x / 100)) (0 + j) 0
unfolding packed_bytes
other_bytes w x j l = get_or-append (packed_bytes w (x / 100)) _ 0 (0 + j) (omega (arith, length_packed w (x / 100)))

pub number_packed : (w x : ℕ) → x < 100 ^ w → packed_number w (packed_bytes w x) 0 ≡ x
unfolding packed_number
number_packed zero x l = omega arith
number_packed (suc w) x l =
    let hundreds =
    packed_cong (packed_bytes (suc w) x) (packed_bytes w (x / 100)) 0 0 w (other_bytes w x)
    ∙ number_packed w (x / 100) ((div-lt_iff_lt-mul (lit< tt)).1 (subst (λ (n : ℕ). x < n) (pow-suc 100 w) l)) in
    let last = ap pair_number (last_byte w x) ∙ pair_read (x % 100) (mod-lt x (lit< tt)) in
    omega (arith, hundreds, last)

pub right_packed : (w x : ℕ) → digits_right w (packed_bytes w x) 0 ≡ true
unfolding digits_right every
right_packed zero x = refl
right_packed (suc w) x =
    and_both (right_cong (packed_bytes (suc w) x) (packed_bytes w (x / 100)) 0 0 w (other_bytes w x) ∙ right_packed w (x / 100))
    (ap pair_right (last_byte w x) ∙ pair_right_lem (x % 100) (mod-lt x (lit< tt)))

-- and bytes with right digits that were read are written as they stood
module _ (b : List ℕ) (at : ℕ) where
  pub packed_below : (w : ℕ) → digits_right w b at ≡ true → packed_number w b at < 100 ^ w
  unfolding packed_number digits_right every
  packed_below zero e = lit< tt
  packed_below (suc w) e =
      omega (arith, packed_below w (and_left _ _ e), pair_below (get_or b (at + w) 0) (and_right (digits_right w b at) _ e))

  pub packed_number_lem : (w : ℕ) → digits_right w b at ≡ true → at + w ≤ length b → packed_bytes w (packed_number w b at) ≡ part at w b
  unfolding packed_number packed_bytes digits_right every
  packed_number_lem zero e l = refl
  packed_number_lem (suc w) e l =
      let last-right = and_right (digits_right w b at) _ e in
      let below = pair_below (get_or b (at + w) 0) last-right in
      ap₂ (λ (bs : List ℕ) (x : ℕ). bs ++ x ∷ [])
      (ap (packed_bytes w) (omega (arith, below)) ∙ packed_number_lem w (and_left _ _ e) (omega arith))
      (ap pair_byte (omega (arith, below)) ∙ pair_written (get_or b (at + w) 0) last-right ∙ sym (get_or-drop at b w 0))
      ∙ sym (take-suc (drop at b) w 0 (omega (arith, length-drop at b)))

-- so each number in range has just one packed form
pub one_packed_form : OnePackedForm
one_packed_form w x l = ((length_packed w x, right_packed w x, number_packed w x l), only)
  where
    only : (b : List ℕ) → PackedForm w x b → b ≡ packed_bytes w x
    only b (len, right, e) = sym (rw (← e) (packed_number_lem b 0 w right (omega (arith, len)) ∙ take_all w b (le_of_eq len)))

-- one byte more, as a program's loop counts
module _ (b : List ℕ) (k : ℕ) where
  pub packed_next : packed_number (k + 1) b 0 ≡ 100 * packed_number k b 0 + pair_number (get_or b k 0)
  unfolding packed_number
  packed_next = ap (λ (w : ℕ). packed_number w b 0) (add-one k) ∙ ap (λ (j : ℕ). 100 * packed_number k b 0 + pair_number (get_or b j 0)) (zero-add k)

  pub right_next : digits_right (k + 1) b 0 ≡ digits_right k b 0 and pair_right (get_or b k 0)
  unfolding digits_right every
  right_next = ap (λ (w : ℕ). digits_right w b 0) (add-one k) ∙ ap (λ (j : ℕ). digits_right k b 0 and pair_right (get_or b j 0)) (zero-add k)

-- the last byte first, as a program that divides by 100 writes
set_later : (s : List ℕ) (at : ℕ) (v : List ℕ) (i y : ℕ) → at + length v ≤ i → set (sets s at v) i y ≡ sets (set s i y) at v
set_later s at [] i y l = refl
set_later s at (x ∷ v) i y l =
    set_later (set s at x) (suc at) v i y (omega arith) ∙ ap (λ (r : List ℕ). sets r (suc at) v) (set_comm s at i x y (λ e. omega arith))

pub last_first : (s : List ℕ) (w x : ℕ) {y : ℕ} → 0 < w → y ≡ pair_byte (x % 100)
    → sets (set s (w - 1) y) 0 (packed_bytes (w - 1) (x / 100)) ≡ sets s 0 (packed_bytes w x)
unfolding packed_bytes
last_first s zero x l e = absurd (omega arith)
last_first s (suc w) x {y} l e =
    let hundreds = packed_bytes w (x / 100) in
    let less : suc w - 1 ≡ w = omega arith in
    sym (rw (less, ← e) (sets_append s 0 hundreds (y ∷ [])
    ∙ ap (λ (n : ℕ). set (sets s 0 hundreds) n y) (omega (arith, length_packed w (x / 100)))
    ∙ set_later s 0 hundreds w y (omega (arith, length_packed w (x / 100)))))

-- and written over all of a list it is the list
pub over_all : (s : List ℕ) (x : ℕ) → sets s 0 (packed_bytes (length s) x) ≡ packed_bytes (length s) x
over_all s x =
    let v = packed_bytes (length s) x in
    sym (take_all (length s) (sets s 0 v) (omega (arith, length-sets s 0 v)))
    ∙ ap (λ (n : ℕ). take n (sets s 0 v)) (sym (length_packed (length s) x))
    ∙ part_sets s 0 v (omega (arith, length_packed (length s) x))
