-- Decimal numbers from 0 to 2^64 − 1, without leading zeros.
use Rattle.std.specs.Prelude.{ℕ, zero, suc, ◌+◌, ◌*◌, ◌/◌, ◌%◌, ◌^◌, List, [], ◌∷◌, ◌++◌, Bool, false, cond, not, ◌&&◌, ltb, eqb, Option, Some, None}
use Rattle.laws.specs.Sorted.{all}
use Rattle.text.specs.Hex.{digit_value, is_digit}

-- Digits, at least one, and no 0 before others.
unfoldable pub is_plain : List ℕ → Bool
is_plain [] = false
is_plain (b ∷ []) = all (is_digit 10) (b ∷ [])
is_plain (b ∷ c ∷ s) = not (eqb b 48) && all (is_digit 10) (b ∷ c ∷ s)

-- The number of digits that follow those of n.
unfoldable pub number_from : ℕ → List ℕ → ℕ
number_from n [] = n
number_from n (b ∷ s) = number_from (n * 10 + digit_value b) s

-- The number: 2^64 and above is of another form.
unfoldable pub value_read : ℕ → Option ℕ
value_read n = cond (ltb n (2 ^ 64)) (Some n) None

unfoldable pub number_read : List ℕ → Option ℕ
number_read s = cond (is_plain s) (value_read (number_from 0 s)) None

-- The digits of a number, of which there are at most k.
unfoldable pub digits : ℕ → ℕ → List ℕ
digits zero x = []
digits (suc k) x = cond (ltb x 10) ((48 + x) ∷ []) (digits k (x / 10) ++ (48 + x % 10) ∷ [])

unfoldable pub decimal_text : ℕ → List ℕ
decimal_text x = digits 20 x
