-- Numbers in bytes: unsigned, low byte first (little-endian), w bytes wide.
-- Assumes nothing.
use Rattle.std.specs.Prelude.{ℕ, zero, suc, ◌+◌, ◌*◌, ◌/◌, ◌%◌, ◌<◌, List, [], ◌∷◌, ◌++◌, length, get_or, take, drop, ltb}
use Rattle.std.proofs.lemmas.List.Edits.{sets}
use Rattle.rules.specs.Refusals.{◌when◌, done}

-- the number at a position of a list of bytes
unfoldable pub number : ℕ → List ℕ → ℕ → ℕ
number zero b at = 0
number (suc w) b at = get_or b at 0 + 256 * number w b (suc at)

-- a number's bytes
unfoldable pub bytes : ℕ → ℕ → List ℕ
bytes zero x = []
bytes (suc w) x = x % 256 ∷ bytes w (x / 256)

-- the bytes of a list of 4-byte numbers
unfoldable pub encode : List ℕ → List ℕ
encode [] = []
encode (x ∷ xs) = bytes 4 x ++ encode xs

-- a list of bytes: none is above 255; past its end the default 0 is read
abbrev pub Octets : List ℕ → Type 0
Octets b = (k : ℕ) → get_or b k 0 < 256

-- a part of a list: so many elements from a position
abbrev pub part : {A : Type 0} → ℕ → ℕ → List A → List A
part at count l = take count (drop at l)

-- where the part of a lent slice of bytes lies that starts at a position: in the slice's block, so many bytes past the slice's offset
abbrev pub part_place : ℕ × ℕ → ℕ → ℕ × ℕ
part_place (block, offset) at = (block, at + offset)

-- putting a number into a lent slice of bytes: 8 where it does not fit there; every byte outside stays
unfoldable pub put_answer : ℕ → List ℕ → ℕ → ℕ
put_answer w b at = 8 when ltb (length b) (at + w)

unfoldable pub after_put : ℕ → List ℕ → ℕ → ℕ → List ℕ
after_put w b at x = done (put_answer w b at) (sets b at (bytes w x)) b
