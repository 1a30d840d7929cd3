-- Numbers and subspaces as bytes: eight bytes say the number again, and its bytes are they.
-- Assumes nothing.
use Prim.Native.Nat.{ℕ, zero, suc, ◌+◌, ◌*◌, ◌/◌, ◌%◌, ◌^◌, ◌≤◌, ◌<◌}
use mathlib.Core.Path.{◌≡◌, refl, sym, ap, subst, ◌∙◌}
use mathlib.Core.List.{List, [], ◌∷◌, ◌++◌, append_assoc}
use native.Mathlib.Omega.{arith}
use native.Mathlib.Nat.{one-le-pow, zero-add, zero-mul, mod-eq_of_lt, pow-succ', pow-zero, mod-one, mul-one, add-zero, add-mul, mul_assoc, add_assoc}
use lib.Arith.{mod-mul, digits_div, digits_mod, digits_lt}
use lib.ListN.{length, take, drop, length-drop}
use lib.Seq.{take_at, drop_at, take-add, length-take-le}
use Rattle.keys.specs.Encode.{be, subspace_key}
use Rattle.keys.specs.Decode.{number_from, number, subspace_at}
use Rattle.data_model.specs.declared.parameters.Subspace.{Subspace}
use Rattle.keys.proofs.Encoding.{be-length}
use Rattle.key_laws.specs.Bytes.{Bytes}
use Rattle.key_laws.proofs.Fits.{bytes_take, bytes_drop}

-- What is written is read back.
number-be : (a n x : ℕ) → number_from a (be n x) ≡ a * 256 ^ n + x % 256 ^ n
unfolding number_from be
number-be a zero x = rw (pow-zero, mod-one, mul-one, add-zero)
number-be a (suc n) x =
    let p = 256 ^ n in
    let m : x % 256 ^ suc n ≡ (x / p % 256) * p + x % p = ap (x %◌) (pow-succ' 256 n) ∙ mod-mul x (omega arith) (one-le-pow n 256 (omega arith)) in
    number-be (a * 256 + x / p % 256) n x
    ∙ rw (m, pow-succ' 256 n, add-mul, mul_assoc, add_assoc)

pub number-back : (x : ℕ) (r : List ℕ) → x < 2 ^ 64 → number (be 8 x ++ r) ≡ x
unfolding number
number-back x r h = ap (number_from 0) (take_at (be 8 x) r 8 (be-length 8 x)) ∙ number-be 0 8 x ∙ rw (zero-mul, zero-add, mod-eq_of_lt {m = 256 ^ 8} h)

pub subspace-back : (s : Subspace) (r : List ℕ) → s.high < 2 ^ 64 → s.low < 2 ^ 64 → subspace_at (subspace_key s ++ r) ≡ s
unfolding subspace_at subspace_key
subspace-back s r hi lo =
    let a : (be 8 s.high ++ be 8 s.low) ++ r ≡ be 8 s.high ++ (be 8 s.low ++ r) = append_assoc (be 8 s.high) (be 8 s.low) r in
    let h : number ((be 8 s.high ++ be 8 s.low) ++ r) ≡ s.high = ap number a ∙ number-back s.high (be 8 s.low ++ r) hi in
    let l : number (drop 8 ((be 8 s.high ++ be 8 s.low) ++ r)) ≡ s.low
    = ap (λ (x : List ℕ). number (drop 8 x)) a
    ∙ ap number (drop_at (be 8 s.high) (be 8 s.low ++ r) 8 (be-length 8 s.high))
    ∙ number-back s.low r lo in
    rw (h, l)

-- What is read is what is written for it.
number-from : (a : ℕ) (xs : List ℕ) → number_from a xs ≡ a * 256 ^ length xs + number_from 0 xs
unfolding number_from
number-from a [] = rw (pow-zero, mul-one, add-zero)
number-from a (b ∷ xs) =
    number-from (a * 256 + b) xs
    ∙ rw (pow-succ' 256 (length xs), number-from (0 * 256 + b) xs, add-mul, mul_assoc, add_assoc, zero-mul, zero-add)

number-below : (xs : List ℕ) → Bytes xs → number_from 0 xs < 256 ^ length xs
unfolding number_from
number-below [] h = rw pow-zero (omega arith)
number-below (b ∷ xs) h =
    rw (pow-succ' 256 (length xs), number-from (0 * 256 + b) xs, zero-mul, zero-add)
    (digits_lt (h 0) (number-below xs (λ i. h (suc i))))

be-number : (n : ℕ) (xs : List ℕ) (a : ℕ) → length xs ≡ n → Bytes xs → be n (number_from a xs) ≡ xs
unfolding be number_from
be-number zero [] a e h = refl
be-number zero (b ∷ xs) a e h = absurd (omega arith)
be-number (suc n) [] a e h = absurd (omega arith)
be-number (suc n) (b ∷ xs) a e h =
    let l : length xs ≡ n = omega arith in
    let p : 256 ^ length xs ≡ 256 ^ n = ap (256 ^◌) l in
    let w : number_from 0 xs < 256 ^ n = rw (← p) (number-below xs (λ i. h (suc i))) in
    let q : number_from (a * 256 + b) xs / 256 ^ n % 256 ≡ b
    = ap (λ (x : ℕ). x / 256 ^ n % 256) (number-from (a * 256 + b) xs ∙ ap (λ (y : ℕ). (a * 256 + b) * y + number_from 0 xs) p)
    ∙ ap (◌% 256) (digits_div (a * 256 + b) w)
    ∙ digits_mod a (h 0) in
    rw (q, be-number n xs (a * 256 + b) l (λ i. h (suc i)))

module _ (k : List ℕ) (bytes : Bytes k) where
  pub number-forth : 8 ≤ length k → be 8 (number k) ≡ take 8 k
  unfolding number
  number-forth l = be-number 8 (take 8 k) 0 (length-take-le 8 k l) (bytes_take 8 k bytes)

  pub number-sized : 8 ≤ length k → number k < 2 ^ 64
  unfolding number
  number-sized l =
      let n : length (take 8 k) ≡ 8 = length-take-le 8 k l in
      subst (λ (m : ℕ). number_from 0 (take 8 k) < 256 ^ m) n (number-below (take 8 k) (bytes_take 8 k bytes))

pub subspace-forth : (k : List ℕ) → Bytes k → 16 ≤ length k → subspace_key (subspace_at k) ≡ take 16 k
unfolding subspace_at subspace_key
subspace-forth k h l =
    rw (number-forth k h (omega arith), number-forth (drop 8 k) (bytes_drop 8 k h) (simp length-drop (omega arith))) (sym (take-add 8 8 k))
