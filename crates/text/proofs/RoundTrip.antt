-- What is written is read back: bytes and numbers. Assumes nothing.
use Prim.Native.Nat.{ℕ, zero, suc, ◌+◌, ◌-◌, ◌*◌, ◌/◌, ◌%◌, ◌^◌, ◌≤◌, ◌<◌}
use mathlib.Core.Path.{◌≡◌, refl, sym, subst, ◌∙◌}
use mathlib.Core.List.{List, [], ◌∷◌, ◌++◌}
use mathlib.Core.Bool.{true}
use native.Mathlib.Omega.{arith}
use lib.Dec.{ltb}
use borrow.Author.Tests.{lt-ltb, le-ltb, ltb-true, ltb-false}
use lib.ListN.{length, get_or, length-append, get_or-append}
use Rattle.laws.specs.Sorted.{all}
use Rattle.laws.proofs.Truth.{split, and-true}
use Rattle.key_laws.proofs.Fits.{is_byte}
use Rattle.text.specs.Hex.{digit_value, is_digit, is_hex, hex_of, hex_digit, hex_byte, hex_text, byte_read}
use Rattle.text.specs.Decimal.{is_plain, number_from, number_read, digits, decimal_text}
use Rattle.std.specs.Prelude.{Some}
use Rattle.text.proofs.HexLaws.{digit-is, hex-form, text-length, byte-is}
use Rattle.text.proofs.DecimalLaws.{plain-one, plain_more, value-is, number-form, tens}

-- A digit's value.
pub digit-back : (n : ℕ) → n < 16 → digit_value (hex_digit n) ≡ n
unfolding hex_digit digit_value
digit-back n h =
    split (ltb n 10)
    (λ e. let l = ltb-true n 10 e in rw (e, le-ltb (48 + n) 48 (omega arith), lt-ltb (48 + n) 58 (omega arith)) (omega arith))
    (λ e.
    let l = ltb-false n 10 e in
    rw (e, le-ltb (87 + n) 48 (omega arith), le-ltb (87 + n) 58 (omega arith), le-ltb (87 + n) 97 (omega arith), lt-ltb (87 + n) 103 (omega arith)) (omega arith))

digit-fine : (n : ℕ) → n < 16 → is_digit 16 (hex_digit n) ≡ true
digit-fine n h = digit-is 16 (hex_digit n) (omega (arith, digit-back n h))

-- Bytes.
pub digits-back : (s : List ℕ) → all is_byte s ≡ true → (all (is_digit 16) (hex_text s) ≡ true) × (hex_of (hex_text s) ≡ s)
unfolding all hex_text hex_of
digits-back [] h = (refl, refl)
digits-back (b ∷ s) h =
    let k = and-true (ltb b 256) (all is_byte s) h in
    let l : b < 256 = ltb-true b 256 k.0 in
    let r = digits-back s k.1 in
    let d : b / 16 * 16 + b % 16 ≡ b = omega arith in (
      rw (digit-fine (b / 16) (omega arith), digit-fine (b % 16) (omega arith)) r.0,
      rw (digit-back (b / 16) (omega arith), digit-back (b % 16) (omega arith), d, r.1),
    )

pub hex-back : (s : List ℕ) → all is_byte s ≡ true → (is_hex (hex_text s) ≡ true) × (hex_of (hex_text s) ≡ s)
hex-back s h =
    let r = digits-back s h in
    (sym (hex-form (hex_text s) (omega (arith, text-length s))) ∙ r.0, r.1)

pub byte-back : (b : ℕ) → b < 256 → byte_read (hex_byte b) ≡ Some b
unfolding hex_text all
byte-back b h =
    let r = hex-back (b ∷ []) (rw (lt-ltb b 256 h)) in
    let d : b / 16 * 16 + b % 16 ≡ b = omega arith in
    sym (byte-is (hex_byte b) refl r.0 b (sym (rw (digit-back (b / 16) (omega arith), digit-back (b % 16) (omega arith)) d)))

-- Numbers: the digits of one stand for it.
decimal_digit : (n : ℕ) → n < 10 → digit_value (48 + n) ≡ n
unfolding digit_value
decimal_digit n h = rw (le-ltb (48 + n) 48 (omega arith), lt-ltb (48 + n) 58 (omega arith)) (omega arith)

number_more : (n d : ℕ) (s : List ℕ) → number_from n (s ++ d ∷ []) ≡ number_from n s * 10 + digit_value d
unfolding number_from
number_more n d [] = refl
number_more n d (b ∷ s) = number_more (n * 10 + digit_value b) d s

all_more : (d : ℕ) (s : List ℕ) → all (is_digit 10) s ≡ true → is_digit 10 d ≡ true → all (is_digit 10) (s ++ d ∷ []) ≡ true
unfolding all
all_more d [] h e = rw e
all_more d (b ∷ s) h e =
    let k = and-true (is_digit 10 b) (all (is_digit 10) s) h in
    rw k.0 (all_more d s k.1 e)

record Written (x : ℕ) (s : List ℕ) : Type 0 where
  some : 0 < length s
  plain : all (is_digit 10) s ≡ true
  value : number_from 0 s ≡ x
  short : x < 10 → length s ≡ 1
  first : 0 < x → get_or s 0 0 ≡ 48 → ⊥

written_last : (k x : ℕ) → x < 10 → Written x (digits (suc k) x)
unfolding digits number_from all
written_last k x h =
    let q : digits (suc k) x ≡ (48 + x) ∷ [] = rw (lt-ltb x 10 h) in
    subst (Written x) (sym q)
    record {
      some = omega arith;
      plain = rw (digit-is 10 (48 + x) (omega (arith, decimal_digit x h)));
      value = omega (arith, decimal_digit x h);
      short = λ l. refl;
      first = λ l e. let q : 48 + x ≡ 48 = e in omega arith;
    }

written-more : (k x : ℕ) → 10 ≤ x → Written (x / 10) (digits k (x / 10)) → Written x (digits (suc k) x)
unfolding digits
written-more k x h w =
    let d : x % 10 < 10 = omega arith in
    let l = length-append (digits k (x / 10)) ((48 + x % 10) ∷ []) in
    let q : digits (suc k) x ≡ digits k (x / 10) ++ (48 + x % 10) ∷ [] = rw (le-ltb x 10 h) in
    subst (Written x) (sym q)
    record {
      some = omega (arith, l, w.some);
      plain = all_more (48 + x % 10) (digits k (x / 10)) w.plain (digit-is 10 (48 + x % 10) (omega (arith, decimal_digit (x % 10) d)));
      value = number_more 0 (48 + x % 10) (digits k (x / 10)) ∙ omega (arith, w.value, decimal_digit (x % 10) d);
      short = λ s. absurd (omega arith);
      first = λ s e. w.first (omega arith) (sym (get_or-append (digits k (x / 10)) ((48 + x % 10) ∷ []) 0 0 w.some) ∙ e);
    }

written : (k x : ℕ) → x < 10 ^ suc k → Written x (digits (suc k) x)
written zero x h = written_last zero x (omega arith)
written (suc k) x h =
    split (ltb x 10)
    (λ e. written_last (suc k) x (ltb-true x 10 e))
    (λ e.
    let l = ltb-false x 10 e in
    let t = tens (suc (suc k)) x h l in
    let q : suc (suc k) - 1 ≡ suc k = omega arith in
    written-more (suc k) x l (written k (x / 10) (rw q at t.low)))

plain-is : (x : ℕ) (s : List ℕ) → Written x s → is_plain s ≡ true
plain-is x s w =
    split (ltb x 10)
    (λ e. sym (plain-one s (λ z. omega (arith, w.some)) (omega (arith, w.short (ltb-true x 10 e)))) ∙ w.plain)
    (λ e. split (ltb 1 (length s))
    (λ m. sym (plain_more s (ltb-true 1 (length s) m) (w.first (omega (arith, ltb-false x 10 e)))) ∙ w.plain)
    (λ m. sym (plain-one s (λ z. omega (arith, w.some)) (ltb-false 1 (length s) m)) ∙ w.plain))

pub number-back : (x : ℕ) → x < 2 ^ 64 → number_read (decimal_text x) ≡ Some x
unfolding decimal_text
number-back x h =
    let w = written 19 x (omega arith) in
    sym (value-is (number_from 0 (digits 20 x)) x w.value h ∙ number-form (digits 20 x) (plain-is x (digits 20 x) w))
