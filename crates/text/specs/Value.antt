-- Subspaces and digests: two digits or all.
use Rattle.std.specs.Prelude.{ℕ, List, Bool, cond, ◌&&◌, length, get_or, replicate, eqb, ltb, Option, Some, None}
use Rattle.keys.specs.Encode.{subspace_key}
use Rattle.keys.specs.Decode.{subspace_at}
use Rattle.data_model.specs.declared.parameters.Subspace.{Subspace}
use Rattle.text.specs.Hex.{is_hex, hex_of, hex_byte, hex_text}

-- The bytes of a field of so many, two digits each.
unfoldable pub bytes_read : ℕ → List ℕ → Option (List ℕ)
bytes_read n s = cond (is_hex s && eqb (length (hex_of s)) n) (Some (hex_of s)) None

-- One byte is the last of a subspace, the rest 0; 16 are all of it.
unfoldable pub subspace_of : List ℕ → Option Subspace
subspace_of bs =
    cond (eqb (length bs) 1) (Some (record { high = 0; low = get_or bs 0 0 }))
    (cond (eqb (length bs) 16) (Some (subspace_at bs)) None)

unfoldable pub subspace_field : List ℕ → Option Subspace
subspace_field s = cond (is_hex s) (subspace_of (hex_of s)) None

-- One byte fills a digest; 32 are all of it.
unfoldable pub digest_of : List ℕ → Option (List ℕ)
digest_of bs =
    cond (eqb (length bs) 1) (Some (replicate 32 (get_or bs 0 0)))
    (cond (eqb (length bs) 32) (Some bs) None)

unfoldable pub digest_field : List ℕ → Option (List ℕ)
digest_field s = cond (is_hex s) (digest_of (hex_of s)) None

-- Written in two digits where these say all.
unfoldable pub is_short : Subspace → Bool
is_short s = eqb s.high 0 && ltb s.low 256

unfoldable pub subspace_text : Subspace → List ℕ
subspace_text s = cond (is_short s) (hex_byte s.low) (hex_text (subspace_key s))
