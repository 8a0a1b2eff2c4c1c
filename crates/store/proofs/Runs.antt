-- Numbers of a list compared one after the other with those of a book's bytes, until one of the two has no more.
-- Assumes nothing.
use Prim.Native.Nat.{ℕ, ◌+◌, ◌*◌, ◌≤◌, ◌<◌}
use native.Mathlib.Omega.{arith}
use mathlib.Core.Path.{◌≡◌, refl, ap, ap₂, sym, ◌∙◌}
use mathlib.Core.Logic.{◌≢◌, ◌⊎◌, inl, inr}
use mathlib.Core.Bool.{Bool, true, false}
use mathlib.Core.List.{List, [], ◌∷◌, ◌++◌, append_assoc}
use lib.ListN.{length, get_or, length-append, get_or-append}
use lib.Seq.{get_or-append-add}
use lib.Dec.{eqb}
use borrow.Author.Tests.{eq-eqb, ne_eqb}
use Rattle.rules.specs.Loops.{every}
use Rattle.rules.specs.Numbers.{number, part}
use Rattle.rules.proofs.Loops.Every.{every_cong, every_more, every_stops}
use Rattle.rules.proofs.Bytes.Numbers.{number_append, number_cong, number_part}
use Rattle.rules.proofs.Loops.Parts.{length_part, get_d_part}

-- k numbers were compared, and of both so much is left
pub record Compared (book numbers rest left : List ℕ) (same : Bool) : Type 0 where
  pub k : ℕ
  pub read : List ℕ
  pub told : List ℕ
  pub book_is : book ≡ read ++ rest
  pub numbers_are : numbers ≡ told ++ left
  pub read_long : length read ≡ k * 4
  pub told_long : length told ≡ k
  pub same_is : same ≡ every k (λ j. eqb (get_or numbers j 0) (number 4 book (j * 4)))

pub none_compared : {book numbers rest left : List ℕ} → rest ≡ book → left ≡ numbers → Compared book numbers rest left true
unfolding every
none_compared all both = record { k = 0; read = []; told = []; book_is = sym all; numbers_are = sym both; read_long = refl; told_long = refl; same_is = refl }

module _ {book numbers rest left : List ℕ} {same : Bool} (c : Compared book numbers rest left same) where
  pub all_compared : length book ≡ length numbers * 4 → (length rest < 4) ⊎ (length left ≡ 0) → same ≡ every (length numbers) (λ j. eqb (get_or numbers j 0) (number 4 book (j * 4)))
  all_compared fits over = let all : c.k ≡ length numbers = done over in rw all at c.same_is
    where
      bytes : length book ≡ length c.read + length rest
      bytes = ap length c.book_is ∙ length-append c.read rest

      count : length numbers ≡ length c.told + length left
      count = ap length c.numbers_are ∙ length-append c.told left

      done : (length rest < 4) ⊎ (length left ≡ 0) → c.k ≡ length numbers
      done (inl o) = omega (arith, bytes, count, c.read_long, c.told_long)
      done (inr o) = omega (arith, bytes, count, c.read_long, c.told_long)

  module _ (four after next : List ℕ) (x : ℕ) (bytes : rest ≡ four ++ after) (sized : length four ≡ 4) (more : left ≡ x ∷ next) where
    here : x ≡ get_or numbers c.k 0
    here =
        sym (get_or-append-add c.told (x ∷ next) 0 0) ∙ ap (λ (l : List ℕ). get_or l (length c.told + 0) 0) (sym (c.numbers_are ∙ ap (λ (l : List ℕ). c.told ++ l) more))
        ∙ ap (λ (j : ℕ). get_or numbers j 0) (omega (arith, c.told_long))

    there : number 4 four 0 ≡ number 4 book (c.k * 4)
    there =
        number_cong 4 four (four ++ after) 0 0 (λ j l. sym (get_or-append four after 0 (0 + j) (omega (arith, sized))))
        ∙ sym (number_append 4 c.read (four ++ after) 0)
        ∙ ap (λ (l : List ℕ). number 4 l (length c.read + 0)) (sym (c.book_is ∙ ap (λ (l : List ℕ). c.read ++ l) bytes))
        ∙ ap (number 4 book) (omega (arith, c.read_long))

    step : {b : Bool} → b ≡ every (c.k + 1) (λ j. eqb (get_or numbers j 0) (number 4 book (j * 4))) → Compared book numbers after next b
    step is =
        record {
          k = c.k + 1;
          read = c.read ++ four;
          told = c.told ++ (x ∷ []);
          book_is = c.book_is ∙ ap (λ (l : List ℕ). c.read ++ l) bytes ∙ sym (append_assoc c.read four after);
          numbers_are = c.numbers_are ∙ ap (λ (l : List ℕ). c.told ++ l) more ∙ sym (append_assoc c.told (x ∷ []) next);
          read_long = omega (arith, length-append c.read four, c.read_long, sized);
          told_long = omega (arith, length-append c.told (x ∷ []), c.told_long);
          same_is = is;
        }

    module _ {y : ℕ} (got : y ≡ number 4 four 0) where
      pub one_same : x ≡ y → Compared book numbers after next same
      one_same e = step (c.same_is ∙ sym (every_more c.k _ (eq-eqb _ _ (sym here ∙ e ∙ got ∙ there))))

      pub one_other : x ≢ y → Compared book numbers after next false
      one_other d = step (sym (every_stops (c.k + 1) _ c.k (omega arith) (ne_eqb _ _ (λ e. d (here ∙ e ∙ sym there ∙ sym got)))))

-- the same of parts of a book and of a list
pub parts_compared : (book numbers : List ℕ) (at from m size count : ℕ) {b : Bool}
    → b ≡ every (length (part from count numbers)) (λ k. eqb (get_or (part from count numbers) k 0) (number 4 (part at size book) (k * 4))) → size ≡ m * 4 → count ≡ m
    → from + m ≤ length numbers → b ≡ every m (λ k. eqb (get_or numbers (from + k) 0) (number 4 book (at + k * 4)))
parts_compared book numbers at from m size count told sized counted fits =
    told
    ∙ rw (counted, length_part from m numbers fits)
    (every_cong m (λ k k<m. ap₂ eqb (get_d_part from m numbers k k<m) (number_part 4 book at size (k * 4) (omega (arith, sized)))))
