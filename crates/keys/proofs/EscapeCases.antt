-- Laws of the escape table: its marks, its cases, and the token that each case stands for.
-- Assumes nothing.
use Prim.Native.Nat.{ℕ, zero, suc, ◌+◌, ◌-◌, ◌≤◌, ◌<◌}
use mathlib.Core.Path.{◌≡◌, refl, sym, ap, ◌∙◌}
use mathlib.Core.List.{List, [], ◌∷◌}
use native.Mathlib.Omega.{arith}
use native.Mathlib.Numerals.{add-one}
use lib.ListN.{length, take, drop, get_or, drop_of_length-le}
use lib.Seq.{drop-cons}
use Rattle.std.specs.Prelude.{Some, None}
use Rattle.std.specs.List.{slice_get}
use Rattle.data_model.specs.Said.{Said, refuses, says}
use Rattle.data_model.specs.Refusal.{no_key}
use Rattle.keys.specs.Decode.{Symbol, byte, component_mark, path_mark, mark, token_of}
use Rattle.keys.specs.Inner.{escape_case}
use Rattle.keys.specs.declared.token.EscapeCase.{EscapeCase}
use Rattle.keys.specs.declared.token.EscapeCase.TheVariants as escape
use Rattle.keys.proofs.Reading.{rest}

-- Which case a byte is: an ordinary one, the last one, or by the byte behind it.
pub case-ordinary : (b : ℕ) (k : List ℕ) → (b ≡ 0 → ⊥) → escape_case b k ≡ escape.Ordinary b
unfolding escape_case
case-ordinary zero k h = absurd (h refl)
case-ordinary (suc b) k h = refl

pub case-last : (b : ℕ) (k : List ℕ) → b ≡ 0 → None ≡ slice_get k 0 → escape_case b k ≡ escape.ZeroLast
unfolding escape_case
case-last b [] z e = rw z
case-last b (m ∷ k) z e = absurd (let z : ◌≡◌ {A = ℕ} 0 1 = cc in omega arith)

by-mark : (m : ℕ) (k : List ℕ) → escape_case 0 (m ∷ k) ≡ escape_case 0 (m ∷ [])
unfolding escape_case
by-mark zero k = refl
by-mark (suc zero) k = refl
by-mark (suc (suc zero)) k = refl
by-mark (suc (suc (suc m))) k = refl

other-mark : (m : ℕ) → (m ≡ 0 → ⊥) → (m ≡ 1 → ⊥) → (m ≡ 2 → ⊥) → escape_case 0 (m ∷ []) ≡ escape.ZeroOther
unfolding escape_case
other-mark zero f g h = absurd (f refl)
other-mark (suc zero) f g h = absurd (g refl)
other-mark (suc (suc zero)) f g h = absurd (h refl)
other-mark (suc (suc (suc m))) f g h = refl

-- By the first byte behind a 00.
pub case-mark : (b : ℕ) (k : List ℕ) (m : ℕ) → b ≡ 0 → Some m ≡ slice_get k 0 → escape_case b k ≡ escape_case 0 (m ∷ [])
case-mark b [] m z e = absurd (let z : ◌≡◌ {A = ℕ} 0 1 = cc in omega arith)
case-mark b (n ∷ k) m z e = let q : n ≡ m = cc in rw (z, q) (by-mark m k)

pub case-other : (b : ℕ) (k : List ℕ) (m : ℕ) → b ≡ 0 → Some m ≡ slice_get k 0 → (m ≡ 0 → ⊥) → (m ≡ 1 → ⊥) → (m ≡ 2 → ⊥) → escape_case b k ≡ escape.ZeroOther
case-other b k m z e f g h = case-mark b k m z e ∙ other-mark m f g h

-- The token of each case.
abbrev pub case_token : EscapeCase → Said Symbol
case_token (escape.Ordinary b) = says (byte b)
case_token escape.ZeroZero = says path_mark
case_token escape.ZeroOne = says component_mark
case_token escape.ZeroTwo = says (byte 0)
case_token escape.ZeroOther = refuses no_key
case_token escape.ZeroLast = refuses no_key

token-front : (b : ℕ) (k : List ℕ) → token_of (b ∷ k) ≡ case_token (escape_case b k)
unfolding token_of mark escape_case
token-front (suc b) k = refl
token-front zero (zero ∷ k) = refl
token-front zero (suc zero ∷ k) = refl
token-front zero (suc (suc zero) ∷ k) = refl
token-front zero (suc (suc (suc m)) ∷ k) = refl
token-front zero [] = refl

module _ (k : List ℕ) (at : ℕ) where
  pub token-past : length k ≤ at → token_of (drop at k) ≡ refuses no_key
  unfolding token_of
  token-past h = rw (drop_of_length-le k h)

  -- What stands at a place, by the case of the byte there and the bytes behind it.
  pub token-here : at < length k → token_of (drop at k) ≡ case_token (escape_case (get_or k at 0) (take (length k - (at + 1)) (drop (at + 1) k)))
  token-here h =
      ap token_of (drop-cons k at 0 h)
      ∙ token-front (get_or k at 0) (drop (suc at) k)
      ∙ ap (λ (x : List ℕ). case_token (escape_case (get_or k at 0) x)) (ap (λ (i : ℕ). drop i k) (sym (add-one at)) ∙ sym (rest k (at + 1)))
