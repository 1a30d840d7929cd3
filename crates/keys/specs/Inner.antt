-- What the decoders' inner functions answer and write. No public answer is defined by these.
use Rattle.std.specs.Prelude.{ℕ, zero, suc, ◌-◌, ◌≡◌, List, [], ◌∷◌, length, drop}
use Rattle.laws.specs.Lists.{put}
use Rattle.data_model.specs.Path.{Figures}
use Rattle.keys.specs.Encode.{Triple}
use Rattle.keys.specs.Decode.{Taken, refused, took, read_path, number, subspace_at, whole}
use Rattle.data_model.specs.Said.{Said, refuses, says}
use Rattle.data_model.specs.Refusal.{no_key}
use Rattle.keys.specs.declared.token.EscapeCase.{EscapeCase}
use Rattle.keys.specs.declared.token.EscapeCase.TheVariants as escape

-- The cases of the escape table, by a byte and the bytes behind it: an ordinary byte; 00 then 00, 01, 02 or anything else; 00 at the end.
unfoldable pub escape_case : ℕ → List ℕ → EscapeCase
escape_case (suc b) k = escape.Ordinary (suc b)
escape_case zero (zero ∷ k) = escape.ZeroZero
escape_case zero (suc zero ∷ k) = escape.ZeroOne
escape_case zero (suc (suc zero) ∷ k) = escape.ZeroTwo
escape_case zero (suc (suc (suc m)) ∷ k) = escape.ZeroOther
escape_case zero [] = escape.ZeroLast

-- A key whose subspace stands before the path and whose timestamp stands at a position.
unfoldable pub read_key : Figures → (before behind time : ℕ) → List ℕ → Taken Triple
read_key f before behind time k =
    whole before behind (length k) (λ cs u. record { subspace = subspace_at (drop (before - 16) k); path = cs; timestamp = number (drop time k) })
    (read_path f (drop before k))

-- How many elements were read, and how many bytes they took.
unfoldable pub part_of : {A : Type 0} → Taken (List A) → Said (ℕ × ℕ)
part_of refused = refuses no_key
part_of (took c u) = says (length c, u)

-- A buffer is filled from the front with what was read, if anything was.
abbrev pub Filled : {A : Type 0} → (A → List ℕ) → Taken A → List ℕ → List ℕ → Type 0
Filled f refused old new = Unit
Filled f (took a u) old new = new ≡ put (f a) old
