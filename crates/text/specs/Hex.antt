-- Lower-case hexadecimal, two digits a byte.
use Rattle.std.specs.Prelude.{ℕ, ◌+◌, ◌-◌, ◌*◌, ◌/◌, ◌%◌, List, [], ◌∷◌, ◌++◌, Bool, true, false, cond, ◌&&◌, length, get_or, ltb, leb, eqb, Option, Some, None, Result, Ok, Err}
use Rattle.laws.specs.Lists.{put}
use Rattle.laws.specs.Sorted.{all}
use Rattle.text.specs.declared.hex.HexError.{HexError}
use Rattle.text.specs.declared.hex.HexError.TheVariants.{Bad, Short}

-- `0` to `9` and `a` to `f`; 16 for a byte that is no digit.
unfoldable pub digit_value : ℕ → ℕ
digit_value b = cond (ltb b 48) 16 (cond (ltb b 58) (b - 48) (cond (ltb b 97) 16 (cond (ltb b 103) (b - 87) 16)))

unfoldable pub is_digit : ℕ → ℕ → Bool
is_digit base b = ltb (digit_value b) base

-- Digits, an even number of them; and the bytes that they stand for.
unfoldable pub is_hex : List ℕ → Bool
is_hex s = eqb (length s % 2) 0 && all (is_digit 16) s

unfoldable pub hex_of : List ℕ → List ℕ
hex_of [] = []
hex_of (a ∷ []) = []
hex_of (a ∷ b ∷ s) = (digit_value a * 16 + digit_value b) ∷ hex_of s

-- A field of two digits.
unfoldable pub byte_read : List ℕ → Option ℕ
byte_read s = cond (eqb (length s) 2 && is_hex s) (Some (get_or (hex_of s) 0 0)) None

-- The digits of bytes.
unfoldable pub hex_digit : ℕ → ℕ
hex_digit n = cond (ltb n 10) (48 + n) (87 + n)

abbrev pub hex_byte : ℕ → List ℕ
hex_byte b = hex_digit (b / 16) ∷ hex_digit (b % 16) ∷ []

unfoldable pub hex_text : List ℕ → List ℕ
hex_text [] = []
hex_text (b ∷ s) = hex_byte b ++ hex_text s

-- The answer and the buffer: of another form, too long for the buffer, or taken.
unfoldable pub has_room : List ℕ → List ℕ → Bool
has_room s out = leb (length s) (2 * length out)

unfoldable pub hex_read : (form room : Bool) → List ℕ → Result ℕ HexError
hex_read false room bs = Err Bad
hex_read true false bs = Err Short
hex_read true true bs = Ok (length bs)

unfoldable pub hex_in : (form room : Bool) → List ℕ → List ℕ → List ℕ
hex_in false room bs old = old
hex_in true false bs old = old
hex_in true true bs old = put bs old
