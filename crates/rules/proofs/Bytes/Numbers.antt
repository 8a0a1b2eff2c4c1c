-- Reading a number that was written, and writing a number that was read.
-- Assumes nothing.
use Prim.Native.Nat.{ℕ, zero, suc, ◌+◌, ◌-◌, ◌*◌, ◌/◌, ◌%◌, ◌^◌, ◌≤◌, ◌<◌}
use native.Mathlib.Nat.{zero-lt-suc, add-zero, add-suc, suc-add, suc-mul, not-suc-le-zero, le_of_suc-le-suc, suc-le-suc_iff, div-lt_iff_lt-mul, mod-add-div, mod-lt, pow-suc}
use native.Mathlib.Omega.{arith}
use mathlib.Core.Path.{◌≡◌, refl, ap, ap₂, sym, subst, ◌∙◌}
use mathlib.Core.List.{List, [], ◌∷◌, ◌++◌, append_assoc, append-nil}
use lib.ListN.{length, get_or, take, drop, length-append, get_or-append}
use lib.Dec.{lit<}
use lib.Seq.{get_or-append-add, get_or-take, get_or-drop, drop-cons}
use Rattle.rules.specs.Loops.{flat, list}
use Rattle.rules.specs.Numbers.{number, bytes, encode, part}
pub use Rattle.rules.specs.Numbers.{Octets}
use Rattle.rules.proofs.Loops.Pieces.{flat_cong, flat_parts, getD_flat}

pub octets_bytes : (w x : ℕ) → Octets (bytes w x)
unfolding bytes
octets_bytes zero x k = lit< tt
octets_bytes (suc w) x zero = mod-lt x (lit< tt)
octets_bytes (suc w) x (suc k) = octets_bytes w (x / 256) k

pub length_bytes : (w x : ℕ) → length (bytes w x) ≡ w
unfolding bytes
length_bytes zero x = refl
length_bytes (suc w) x = ap suc (length_bytes w (x / 256))

-- a number depends on its own bytes alone
pub number_cong : (w : ℕ) (b b' : List ℕ) (at at' : ℕ) → ((j : ℕ) → j < w → get_or b (at + j) 0 ≡ get_or b' (at' + j) 0)
    → number w b at ≡ number w b' at'
unfolding number
number_cong zero b b' at at' h = refl
number_cong (suc w) b b' at at' h =
    ap₂ (λ (x y : ℕ). x + 256 * y)
    (ap (λ (k : ℕ). get_or b k 0) (sym (add-zero at)) ∙ h 0 (zero-lt-suc w) ∙ ap (λ (k : ℕ). get_or b' k 0) (add-zero at'))
    (number_cong w b b' (suc at) (suc at') (λ j l.
    ap (λ (k : ℕ). get_or b k 0) (suc-add at j ∙ sym (add-suc at j)) ∙ h (suc j) (suc-le-suc_iff.1 l)
    ∙ ap (λ (k : ℕ). get_or b' k 0) (add-suc at' j ∙ sym (suc-add at' j))))

pub number_part : (w : ℕ) (b : List ℕ) (at m k : ℕ) → k + w ≤ m → number w (part at m b) k ≡ number w b (at + k)
number_part w b at m k l =
    number_cong w (part at m b) b k (at + k) (λ j j<w.
    get_or-take m (drop at b) (k + j) 0 (omega arith) ∙ get_or-drop at b (k + j) 0 ∙ ap (λ (n : ℕ). get_or b n 0) (omega arith))

-- of the part of its own bytes
pub number_read : (w : ℕ) (b : List ℕ) (at : ℕ) {x : ℕ} → x ≡ number w (part at (at + w - at) b) 0 → x ≡ number w b at
number_read w b at e = e ∙ number_part w b at (at + w - at) 0 (omega arith) ∙ ap (number w b) (add-zero at)

pub number_append : (w : ℕ) (a b : List ℕ) (k : ℕ) → number w (a ++ b) (length a + k) ≡ number w b k
number_append w a b k =
    number_cong w (a ++ b) b (length a + k) k (λ j l.
    ap (λ (n : ℕ). get_or (a ++ b) n 0) (omega arith) ∙ get_or-append-add a b (k + j) 0)

pub number_front : (w : ℕ) (a b : List ℕ) (k : ℕ) → k + w ≤ length a → number w (a ++ b) k ≡ number w a k
number_front w a b k l = number_cong w (a ++ b) a k k (λ j j<w. get_or-append a b 0 (k + j) (omega arith))

pub number_flat : (w m ℓ : ℕ) (f : ℕ → List ℕ) → ((k : ℕ) → k < m → length (f k) ≡ ℓ)
    → (k c : ℕ) → k < m → c + w ≤ ℓ → number w (flat m f) (k * ℓ + c) ≡ number w (f k) c
number_flat w m ℓ f h k c k<m l =
    number_cong w (flat m f) (f k) (k * ℓ + c) c (λ j j<w.
    ap (λ (n : ℕ). get_or (flat m f) n 0) (omega arith) ∙ getD_flat m ℓ f 0 h k (c + j) k<m (omega arith))

-- a number that was written is read again
pub number_bytes : (w x : ℕ) → x < 256 ^ w → number w (bytes w x) 0 ≡ x
unfolding number bytes
number_bytes zero x l = omega arith
number_bytes (suc w) x l =
    ap (λ (y : ℕ). x % 256 + 256 * y)
    (number_append w (x % 256 ∷ []) (bytes w (x / 256)) 0
    ∙ number_bytes w (x / 256) ((div-lt_iff_lt-mul (lit< tt)).1 (subst (λ (n : ℕ). x < n) (pow-suc 256 w) l)))
    ∙ mod-add-div x 256

pub number_below : (w : ℕ) (b : List ℕ) (at : ℕ) → Octets b → number w b at < 256 ^ w
unfolding number
number_below zero b at o = lit< tt
number_below (suc w) b at o = omega (arith, o at, number_below w b (suc at) o)

-- and a number that was read is written as it stood
pub bytes_number : (w : ℕ) (b : List ℕ) (at : ℕ) → Octets b → at + w ≤ length b → bytes w (number w b at) ≡ part at w b
unfolding number bytes
bytes_number zero b at o l = refl
bytes_number (suc w) b at o l =
    ap₂ (λ (x : ℕ) (r : List ℕ). x ∷ r) (omega (arith, o at))
    (ap (bytes w) (omega (arith, o at)) ∙ bytes_number w b (suc at) o (omega arith))
    ∙ ap (λ (r : List ℕ). take (suc w) r) (sym (drop-cons b at 0 (omega arith)))

-- the bytes of a list of numbers
pub length_encode : (l : List ℕ) → length (encode l) ≡ length l * 4
unfolding encode
length_encode [] = refl
length_encode (x ∷ l) = length-append (bytes 4 x) (encode l) ∙ omega (arith, length_bytes 4 x, length_encode l)

pub encode_append : (l l' : List ℕ) → encode (l ++ l') ≡ encode l ++ encode l'
unfolding encode
encode_append [] l' = refl
encode_append (x ∷ l) l' =
    ap (λ (r : List ℕ). bytes 4 x ++ r) (encode_append l l') ∙ sym (append_assoc (bytes 4 x) (encode l) (encode l'))

pub encode_list : (m : ℕ) (f : ℕ → ℕ) → encode (list m f) ≡ flat m (λ k. bytes 4 (f k))
unfolding list flat encode
encode_list zero f = refl
encode_list (suc m) f =
    encode_append (flat m (λ k. f k ∷ [])) (f m ∷ []) ∙ ap₂ ◌++◌ (encode_list m f) (append-nil (bytes 4 (f m)))

-- 4-byte numbers that were written are read again
pub number_encode : (l : List ℕ) (c : ℕ) → c < length l → get_or l c 0 < 256 ^ 4 → number 4 (encode l) (c * 4) ≡ get_or l c 0
unfolding encode
number_encode [] c l b = absurd (not-suc-le-zero l)
number_encode (x ∷ l) zero c<l b =
    number_front 4 (bytes 4 x) (encode l) 0 (omega (arith, length_bytes 4 x)) ∙ number_bytes 4 x b
number_encode (x ∷ l) (suc c) c<l b =
    ap (number 4 (bytes 4 x ++ encode l)) (omega (arith, length_bytes 4 x, suc-mul c 4))
    ∙ number_append 4 (bytes 4 x) (encode l) (c * 4) ∙ number_encode l c (le_of_suc-le-suc c<l) b

-- and numbers that were read are written as they stood
pub encode_numbers : (m : ℕ) (b : List ℕ) (at : ℕ) → Octets b → at + m * 4 ≤ length b
    → encode (list m (λ c. number 4 b (at + c * 4))) ≡ part at (m * 4) b
encode_numbers m b at o l =
    encode_list m (λ c. number 4 b (at + c * 4))
    ∙ flat_cong m (λ c c<m. bytes_number 4 b (at + c * 4) o (omega arith))
    ∙ flat_parts m 4 at b

pub octets_append : (a b : List ℕ) → Octets a → Octets b → Octets (a ++ b)
octets_append [] b oa ob k = ob k
octets_append (x ∷ a) b oa ob zero = oa 0
octets_append (x ∷ a) b oa ob (suc k) = octets_append a b (λ k. oa (suc k)) ob k

pub octets_flat : (m : ℕ) (f : ℕ → List ℕ) → ((k : ℕ) → Octets (f k)) → Octets (flat m f)
unfolding flat
octets_flat zero f o k = lit< tt
octets_flat (suc m) f o k = octets_append (flat m f) (f m) (octets_flat m f o) (o m) k

pub octets_encode : (l : List ℕ) → Octets (encode l)
unfolding encode
octets_encode [] k = lit< tt
octets_encode (x ∷ l) k = octets_append (bytes 4 x) (encode l) (octets_bytes 4 x) (octets_encode l) k
