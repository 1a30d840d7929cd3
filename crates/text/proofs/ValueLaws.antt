-- Laws of subspaces and digests as fields: the ways in which reading and writing them end. Assumes nothing.
use Prim.Native.Nat.{ℕ, ◌/◌, ◌≤◌, ◌<◌}
use mathlib.Core.Path.{◌≡◌, sym, ap, ◌∙◌}
use mathlib.Core.List.{List, [], ◌++◌, append-nil}
use mathlib.Core.Bool.{true, false, ◌&&◌}
use native.Mathlib.Omega.{arith}
use lib.Dec.{eqb, ltb}
use borrow.Author.Tests.{eq-eqb, ne_eqb, ltb-true, eqb-true}
use lib.ListN.{length, get_or, drop, replicate, drop_of_length-le}
use Rattle.laws.specs.Lists.{put}
use Rattle.laws.proofs.Truth.{split, and-true}
use Rattle.keys.specs.Encode.{subspace_key}
use Rattle.keys.specs.Decode.{subspace_at}
use Rattle.data_model.specs.declared.parameters.Subspace.{Subspace}
use Rattle.text.specs.Hex.{is_hex, hex_of, byte_read, hex_byte, hex_text}
use Rattle.text.specs.Value.{bytes_read, subspace_of, subspace_field, digest_of, digest_field, is_short, subspace_text}
use Rattle.std.specs.Prelude.{Option, Some, None}
use Rattle.text.proofs.HexLaws.{hex-even, bytes-length}

-- A buffer of the very length is what is put into it.
pub put_whole : (xs old : List ℕ) → length old ≤ length xs → put xs old ≡ xs
unfolding put
put_whole xs old h = let z : drop (length xs) old ≡ [] = drop_of_length-le old {i = length xs} h in ap (xs ++◌) z ∙ append-nil xs

module _ (s : List ℕ) where
  -- How many bytes, by how many digits.
  byte-length : length s ≡ 2 → length (hex_of s) ≡ 1
  byte-length l = omega (arith, bytes-length s)

  byte-other : is_hex s ≡ true → (length s ≡ 2 → ⊥) → length (hex_of s) ≡ 1 → ⊥
  byte-other h l e = l (omega (arith, bytes-length s, hex-even s h))

  -- A field of one byte.
  record OneByte (b : ℕ) : Type 0 where
    digits : is_hex s ≡ true
    one : eqb (length (hex_of s)) 1 ≡ true
    is : get_or (hex_of s) 0 0 ≡ b

  one-byte : (b : ℕ) → byte_read s ≡ Some b → OneByte b
  unfolding byte_read
  one-byte b h = split (eqb (length s) 2 && is_hex s)
      (λ e.
      let k = and-true (eqb (length s) 2) (is_hex s) e in
      let g : Some (get_or (hex_of s) 0 0) ≡ Some b = rw e at h in
      record { digits = k.1; one = eq-eqb (length (hex_of s)) 1 (byte-length (eqb-true (length s) 2 k.0)); is = cc })
      (λ e. let g : ◌≡◌ {A = Option ℕ} None (Some b) = rw e at h in absurd (let z : ◌≡◌ {A = ℕ} 0 1 = cc in omega arith))

  not-one : byte_read s ≡ None → is_hex s ≡ true → eqb (length (hex_of s)) 1 ≡ false
  unfolding byte_read
  not-one h d = ne_eqb (length (hex_of s)) 1 (byte-other d (λ l.
      let g : ◌≡◌ {A = Option ℕ} (Some (get_or (hex_of s) 0 0)) None = rw (eq-eqb (length s) 2 l, d) at h in
      let z : ◌≡◌ {A = ℕ} 0 1 = cc in omega arith))

  -- A field of so many bytes, and any other.
  pub bytes-none : (n : ℕ) → is_hex s ≡ false → None ≡ bytes_read n s
  unfolding bytes_read
  bytes-none n h = rw h

  pub bytes-not : (n : ℕ) → (length s / 2 ≡ n → ⊥) → None ≡ bytes_read n s
  unfolding bytes_read
  bytes-not n h = split (is_hex s) (λ d. rw (d, ne_eqb (length (hex_of s)) n (λ e. h (omega (arith, bytes-length s))))) (λ d. rw d)

  pub bytes-are : (n : ℕ) (old out : List ℕ) → is_hex s ≡ true → length s / 2 ≡ n → length old ≡ n → out ≡ put (hex_of s) old → Some out ≡ bytes_read n s
  unfolding bytes_read
  bytes-are n old out d h o e =
      let f : out ≡ hex_of s = e ∙ put_whole (hex_of s) old (omega (arith, bytes-length s)) in
      rw (d, f, eq-eqb (length (hex_of s)) n (omega (arith, bytes-length s)))

  -- One byte, or all of them.
  pub subspace-one : (low : ℕ) → byte_read s ≡ Some low → Some (record { high = 0; low = low }) ≡ subspace_field s
  unfolding subspace_field subspace_of
  subspace-one low h = let o = one-byte low h in rw (o.digits, o.one, o.is)

  pub subspace-other : byte_read s ≡ None → bytes_read 16 s ≡ None → None ≡ subspace_field s
  unfolding subspace_field subspace_of bytes_read
  subspace-other h e = split (is_hex s)
      (λ d. split (eqb (length (hex_of s)) 16)
      (λ l. let g : ◌≡◌ {A = Option (List ℕ)} (Some (hex_of s)) None = rw (d, l) at e in absurd (let z : ◌≡◌ {A = ℕ} 0 1 = cc in omega arith))
      (λ l. rw (d, not-one h d, l)))
      (λ d. rw d)

  pub subspace-all : byte_read s ≡ None → (k : List ℕ) → bytes_read 16 s ≡ Some k → Some (subspace_at k) ≡ subspace_field s
  unfolding subspace_field subspace_of bytes_read
  subspace-all h k e = split (is_hex s)
      (λ d. split (eqb (length (hex_of s)) 16)
      (λ l. let g : Some (hex_of s) ≡ Some k = rw (d, l) at e in let v : hex_of s ≡ k = cc in rw (d, not-one h d, l) (ap (λ (x : List ℕ). Some (subspace_at x)) (sym v)))
      (λ l. let g : ◌≡◌ {A = Option (List ℕ)} None (Some k) = rw (d, l) at e in absurd (let z : ◌≡◌ {A = ℕ} 0 1 = cc in omega arith)))
      (λ d. let g : ◌≡◌ {A = Option (List ℕ)} None (Some k) = rw d at e in absurd (let z : ◌≡◌ {A = ℕ} 0 1 = cc in omega arith))

  pub digest-one : (b : ℕ) → byte_read s ≡ Some b → Some (replicate 32 b) ≡ digest_field s
  unfolding digest_field digest_of
  digest-one b h = let o = one-byte b h in rw (o.digits, o.one, o.is)

  pub digest-other : byte_read s ≡ None → bytes_read 32 s ≡ digest_field s
  unfolding digest_field digest_of bytes_read
  digest-other h = split (is_hex s) (λ d. rw (d, not-one h d)) (λ d. rw d)

-- Which form a subspace is written in.
pub short-low : (s : Subspace) → is_short s ≡ true → s.low < 256
unfolding is_short
short-low s h = ltb-true s.low 256 (and-true (eqb s.high 0) (ltb s.low 256) h).1

pub subspace-short : (s : Subspace) → is_short s ≡ true → hex_byte s.low ≡ subspace_text s
unfolding subspace_text
subspace-short s h = rw h

pub subspace-long : (s : Subspace) → is_short s ≡ false → hex_text (subspace_key s) ≡ subspace_text s
unfolding subspace_text
subspace-long s h = rw h
