-- Laws of hexadecimal: what is left to read or to write, and the answers of the reader. Assumes nothing.
use Prim.Native.Nat.{ℕ, suc, ◌+◌, ◌*◌, ◌/◌, ◌%◌, ◌≤◌, ◌<◌}
use mathlib.Core.Path.{◌≡◌, refl, ap}
use mathlib.Core.List.{List, [], ◌∷◌, ◌++◌}
use mathlib.Core.Bool.{true, false}
use native.Mathlib.Omega.{arith}
use native.Mathlib.Numerals.{add-one}
use lib.Dec.{eqb, leb}
use borrow.Author.Tests.{eqb-true, ltb-true, lt-ltb, le-leb, lt-leb, eq-eqb}
use lib.ListN.{length, drop, get_or, drop_of_length-le}
use lib.Seq.{drop-cons}
use Rattle.laws.specs.Lists.{put}
use Rattle.laws.specs.Sorted.{all}
use Rattle.laws.proofs.Truth.{and-true}
use Rattle.text.specs.Hex.{digit_value, is_digit, is_hex, hex_of, hex_byte, hex_text, has_room, hex_read, hex_in, byte_read}
use Rattle.text.specs.declared.hex.HexError.TheVariants.{Bad, Short}
use Rattle.std.specs.Prelude.{Some, Ok, Err}
use Rattle.text.proofs.Lists.{all-at}

-- A digit, and none.
pub digit-is : (base b : ℕ) → digit_value b < base → is_digit base b ≡ true
unfolding is_digit
digit-is base b h = lt-ltb (digit_value b) base h

-- An even number of digits.
pub hex-even : (s : List ℕ) → is_hex s ≡ true → length s % 2 ≡ 0
unfolding is_hex
hex-even s h = eqb-true (length s % 2) 0 (and-true (eqb (length s % 2) 0) (all (is_digit 16) s) h).0

pub hex-digits : (s : List ℕ) → is_hex s ≡ true → all (is_digit 16) s ≡ true
unfolding is_hex
hex-digits s h = (and-true (eqb (length s % 2) 0) (all (is_digit 16) s) h).1

pub hex-digit : (s : List ℕ) (i : ℕ) → is_hex s ≡ true → i < length s → digit_value (get_or s i 0) < 16
unfolding is_digit
hex-digit s i h l = ltb-true (digit_value (get_or s i 0)) 16 (all-at (is_digit 16) s i (hex-digits s h) l)

pub hex-form : (s : List ℕ) → length s % 2 ≡ 0 → all (is_digit 16) s ≡ is_hex s
unfolding is_hex
hex-form s e = rw (eq-eqb (length s % 2) 0 e)

-- Digits left to read: the next two, and those after them; or none.
pub bytes-at : (s : List ℕ) (at : ℕ) → at + 1 < length s
    → hex_of (drop at s) ≡ (digit_value (get_or s at 0) * 16 + digit_value (get_or s (at + 1) 0)) ∷ hex_of (drop (at + 2) s)
unfolding hex_of
bytes-at s at h =
    let a : drop at s ≡ get_or s at 0 ∷ drop (suc at) s = drop-cons s at 0 (omega arith) in
    let b : drop (suc at) s ≡ get_or s (suc at) 0 ∷ drop (suc (suc at)) s = drop-cons s (suc at) 0 (omega arith) in
    let e : at + 2 ≡ suc (suc at) = omega arith in
    rw (a, b, e, add-one)

pub bytes-done : (s : List ℕ) (at : ℕ) → length s ≤ at → hex_of (drop at s) ≡ []
unfolding hex_of
bytes-done s at h = rw (drop_of_length-le s h)

pub bytes_one : (s : List ℕ) → length s ≡ 1 → hex_of s ≡ []
unfolding hex_of
bytes_one [] h = refl
bytes_one (a ∷ []) h = refl
bytes_one (a ∷ b ∷ s) h = absurd (omega arith)

pub bytes-length : (s : List ℕ) → length (hex_of s) ≡ length s / 2
unfolding hex_of
bytes-length [] = omega arith
bytes-length (a ∷ []) = omega arith
bytes-length (a ∷ b ∷ s) = omega (arith, bytes-length s)

-- Bytes left to write: the next, and those after it; or none.
pub text_at : (s : List ℕ) (i : ℕ) → i < length s → hex_text (drop i s) ≡ hex_byte (get_or s i 0) ++ hex_text (drop (i + 1) s)
unfolding hex_text
text_at s i h = rw (drop-cons s i 0 h, add-one)

pub text-done : (s : List ℕ) (i : ℕ) → length s ≤ i → hex_text (drop i s) ≡ []
unfolding hex_text
text-done s i h = rw (drop_of_length-le s h)

pub text-length : (s : List ℕ) → length (hex_text s) ≡ 2 * length s
unfolding hex_text
text-length [] = refl
text-length (b ∷ s) = omega (arith, text-length s)

-- A byte that is read.
pub byte-is : (s : List ℕ) → length s ≡ 2 → is_hex s ≡ true → (b : ℕ) → b ≡ digit_value (get_or s 0 0) * 16 + digit_value (get_or s 1 0) → Some b ≡ byte_read s
unfolding byte_read
byte-is s l h b e =
    let f : get_or (hex_of s) 0 0 ≡ digit_value (get_or s 0 0) * 16 + digit_value (get_or s 1 0) = ap (λ (x : List ℕ). get_or x 0 0) (bytes-at s 0 (omega arith)) in
    rw (eq-eqb (length s) 2 l, h, f, e)

-- The three ways in which reading ends.
module _ (s old : List ℕ) where
  pub read-bad : is_hex s ≡ false → (Err Bad ≡ hex_read (is_hex s) (has_room s old) (hex_of s)) × (old ≡ hex_in (is_hex s) (has_room s old) (hex_of s) old)
  unfolding hex_read hex_in
  read-bad e = simp e (refl, refl)

  pub read_short : is_hex s ≡ true → length old < length s / 2 → (Err Short ≡ hex_read (is_hex s) (has_room s old) (hex_of s)) × (old ≡ hex_in (is_hex s) (has_room s old) (hex_of s) old)
  unfolding has_room hex_read hex_in
  read_short e h = let q : leb (length s) (2 * length old) ≡ false = lt-leb (length s) (2 * length old) (omega arith) in simp (e, q) (refl, refl)

  pub read-took : (n : ℕ) (out : List ℕ) → is_hex s ≡ true → length s / 2 ≤ length old → n ≡ length (hex_of s) → out ≡ put (hex_of s) old
      → (Ok n ≡ hex_read (is_hex s) (has_room s old) (hex_of s)) × (out ≡ hex_in (is_hex s) (has_room s old) (hex_of s) old)
  unfolding has_room hex_read hex_in
  read-took n out e h l o =
      let q : leb (length s) (2 * length old) ≡ true = le-leb (length s) (2 * length old) (omega (arith, hex-even s e)) in
      simp (e, q) (ap Ok l, o)
