-- Packed decimal (binary-coded decimal): two digits a byte, the high digit first and so the high byte first, w bytes wide.
-- Assumes nothing.
use Rattle.std.specs.Prelude.{ℕ, zero, suc, ◌+◌, ◌*◌, ◌/◌, ◌%◌, Bool, List, [], ◌∷◌, ◌++◌, get_or, leb}
use Rattle.rules.specs.Loops.{◌and◌, every}

-- the number of a byte's two digits; the byte of a number of two digits
abbrev pub pair_number : ℕ → ℕ
pair_number b = 10 * (b / 16) + b % 16

abbrev pub pair_byte : ℕ → ℕ
pair_byte x = 16 * (x / 10) + x % 10

-- neither digit of a byte is above 9
unfoldable pub pair_right : ℕ → Bool
pair_right b = leb (b / 16) 9 and leb (b % 16) 9

-- the number of the w bytes at a position: 100 times that of all but the last byte, and the last byte's
unfoldable pub packed_number : ℕ → List ℕ → ℕ → ℕ
packed_number zero b at = 0
packed_number (suc w) b at = 100 * packed_number w b at + pair_number (get_or b (at + w) 0)

-- a number's w bytes: those of its hundreds, then the byte of its last two digits
unfoldable pub packed_bytes : ℕ → ℕ → List ℕ
packed_bytes zero x = []
packed_bytes (suc w) x = packed_bytes w (x / 100) ++ pair_byte (x % 100) ∷ []

-- no digit of the w bytes at a position is above 9
unfoldable pub digits_right : ℕ → List ℕ → ℕ → Bool
digits_right w b at = every w (λ k. pair_right (get_or b (at + k) 0))
