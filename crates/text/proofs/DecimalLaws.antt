-- Laws of decimal numbers: what is left to read, and the digits that are written from the last on. Assumes nothing.
use Prim.Native.Nat.{ℕ, zero, suc, ◌+◌, ◌-◌, ◌*◌, ◌/◌, ◌%◌, ◌^◌, ◌≤◌, ◌<◌}
use mathlib.Core.Path.{◌≡◌, refl, sym, ap, ◌∙◌}
use mathlib.Core.List.{List, [], ◌∷◌, ◌++◌, append_assoc, append-nil}
use mathlib.Core.Bool.{true, false}
use native.Mathlib.Omega.{arith}
use native.Mathlib.Nat.{pow-suc}
use native.Mathlib.Numerals.{add-one}
use borrow.Author.Tests.{eq-eqb, ne_eqb, lt-ltb, le-ltb}
use lib.ListN.{length, drop, get_or, set, drop_of_length-le, length-set}
use lib.Seq.{drop-cons, get_or-set_same, drop-set-lt}
use Rattle.laws.specs.Sorted.{all}
use Rattle.text.specs.Hex.{digit_value, is_digit}
use Rattle.text.specs.Decimal.{is_plain, number_from, value_read, number_read, digits, decimal_text}
use Rattle.std.specs.Prelude.{Some, None}

-- The four ways in which the test of the form ends.
pub plain-none : (s : List ℕ) → length s ≡ 0 → false ≡ is_plain s
unfolding is_plain
plain-none [] h = refl
plain-none (b ∷ s) h = absurd (omega arith)

pub plain-one : (s : List ℕ) → (length s ≡ 0 → ⊥) → length s ≤ 1 → all (is_digit 10) s ≡ is_plain s
unfolding is_plain
plain-one [] h g = absurd (h refl)
plain-one (b ∷ []) h g = refl
plain-one (b ∷ c ∷ s) h g = absurd (omega arith)

pub plain-zero : (s : List ℕ) → 1 < length s → get_or s 0 0 ≡ 48 → false ≡ is_plain s
unfolding is_plain
plain-zero [] h e = absurd (omega arith)
plain-zero (b ∷ []) h e = absurd (omega arith)
plain-zero (b ∷ c ∷ s) h e = rw (eq-eqb b 48 e)

pub plain_more : (s : List ℕ) → 1 < length s → (get_or s 0 0 ≡ 48 → ⊥) → all (is_digit 10) s ≡ is_plain s
unfolding is_plain
plain_more [] h e = absurd (omega arith)
plain_more (b ∷ []) h e = absurd (omega arith)
plain_more (b ∷ c ∷ s) h e = rw (ne_eqb b 48 e)

-- Digits left to read.
pub number-goes : (n : ℕ) (s : List ℕ) (i : ℕ) → i < length s → number_from n (drop i s) ≡ number_from (n * 10 + digit_value (get_or s i 0)) (drop (i + 1) s)
unfolding number_from
number-goes n s i h = rw (drop-cons s i 0 h, add-one)

pub number-done : (n : ℕ) (s : List ℕ) (i : ℕ) → length s ≤ i → number_from n (drop i s) ≡ n
unfolding number_from
number-done n s i h = rw (drop_of_length-le s h)

pub number-low : (n : ℕ) (s : List ℕ) → n ≤ number_from n s
unfolding number_from
number-low n [] = omega arith
number-low n (b ∷ s) = omega (arith, number-low (n * 10 + digit_value b) s)

-- The answer, by the number.
pub value-is : (n m : ℕ) → n ≡ m → m < 2 ^ 64 → Some m ≡ value_read n
unfolding value_read
value-is n m e h = rw (e, lt-ltb m (2 ^ 64) h)

pub value-over : (n : ℕ) → 2 ^ 64 ≤ n → None ≡ value_read n
unfolding value_read
value-over n h = rw (le-ltb n (2 ^ 64) h)

pub value-past : (n m : ℕ) (s : List ℕ) (i : ℕ) → m ≡ number_from n (drop i s) → i < length s → 2 ^ 64 ≤ n * 10 + digit_value (get_or s i 0) → None ≡ value_read m
value-past n m s i e h g =
    value-over m (omega (arith, e, number-goes n s i h, number-low (n * 10 + digit_value (get_or s i 0)) (drop (i + 1) s)))

-- Digits left to write, from the last on.
pub record Tens (j r : ℕ) : Type 0 where
  pub two : 2 ≤ j
  pub low : r / 10 < 10 ^ (j - 1)

pub tens : (j r : ℕ) → r < 10 ^ j → 10 ≤ r → Tens j r
tens zero r h g = absurd (omega arith)
tens (suc zero) r h g = absurd (omega arith)
tens (suc (suc j)) r h g =
    let p : 10 ^ suc (suc j) ≡ 10 ^ suc j * 10 = pow-suc 10 (suc j) in
    let e : suc (suc j) - 1 ≡ suc j = omega arith in
    record { two = omega arith; low = rw e (omega (arith, p)) }

-- A store in front of what is written.
store-before : (d : List ℕ) (j v : ℕ) → j < length d → drop j (set d j v) ≡ v ∷ drop (j + 1) d
store-before d j v h =
    let l : j < length (set d j v) = simp length-set (omega arith) in
    drop-cons (set d j v) j 0 l
    ∙ rw (get_or-set_same d j v 0 h, drop-set-lt (suc j) d j v (omega arith), add-one)

module _ (w d : List ℕ) (j r : ℕ) (inv : w ≡ digits j r ++ drop j d) (room : j ≤ length d) where
  pub digits_more : r < 10 ^ j → 10 ≤ r → w ≡ digits (j - 1) (r / 10) ++ drop (j - 1) (set d (j - 1) (48 + r % 10))
  unfolding digits
  digits_more h g =
      let t = tens j r h g in
      let e : j ≡ suc (j - 1) = omega (arith, t.two) in
      let q : digits j r ≡ digits (j - 1) (r / 10) ++ (48 + r % 10) ∷ [] = ap (λ (k : ℕ). digits k r) e ∙ rw (le-ltb r 10 g) in
      let m : j - 1 + 1 ≡ j = omega (arith, t.two) in
      inv
      ∙ ap (◌++ drop j d) q
      ∙ append_assoc (digits (j - 1) (r / 10)) ((48 + r % 10) ∷ []) (drop j d)
      ∙ ap (digits (j - 1) (r / 10) ++◌) (sym (store-before d (j - 1) (48 + r % 10) (omega (arith, t.two)) ∙ ap (λ (k : ℕ). (48 + r % 10) ∷ drop k d) m))

  pub digits_last : 1 ≤ j → r < 10 → drop (j - 1) (set d (j - 1) (48 + r)) ≡ w
  unfolding digits
  digits_last o h =
      let e : j ≡ suc (j - 1) = omega arith in
      let q : digits j r ≡ (48 + r) ∷ [] = ap (λ (k : ℕ). digits k r) e ∙ rw (lt-ltb r 10 h) in
      let m : j - 1 + 1 ≡ j = omega arith in
      sym (inv ∙ ap (◌++ drop j d) q ∙ sym (store-before d (j - 1) (48 + r) (omega arith) ∙ ap (λ (k : ℕ). (48 + r) ∷ drop k d) m))

pub digits-none : (x : ℕ) (d : List ℕ) → length d ≡ 20 → decimal_text x ≡ digits 20 x ++ drop 20 d
unfolding decimal_text
digits-none x d h =
    let z : drop 20 d ≡ [] = drop_of_length-le d {i = 20} (omega arith) in
    sym (ap (digits 20 x ++◌) z ∙ append-nil (digits 20 x))

-- The answer, by the form.
pub number-form : (s : List ℕ) → is_plain s ≡ true → value_read (number_from 0 s) ≡ number_read s
unfolding number_read
number-form s h = rw h
