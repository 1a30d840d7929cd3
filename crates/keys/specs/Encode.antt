-- The bytes of a path and of the two keys, and the answers of the encoders.
use Rattle.std.specs.Prelude.{ℕ, zero, suc, ◌+◌, ◌*◌, ◌/◌, ◌%◌, ◌^◌, List, [], ◌∷◌, ◌++◌, Bool, true, false, length, leb}
use Rattle.laws.specs.Lists.{put}
use Rattle.data_model.specs.Path.{Figures, Component, Components}
use Rattle.data_model.specs.Said.{Said, refuses, says}
use Rattle.data_model.specs.Refusal.{short_buffer, illegal_path}
use Rattle.data_model.specs.declared.parameters.Subspace.{Subspace}

-- The marks: a component ends 00 01, a path 00 00.
abbrev pub component_end : List ℕ
component_end = 0x00 ∷ 0x01 ∷ []

abbrev pub path_end : List ℕ
path_end = 0x00 ∷ 0x00 ∷ []

-- Component byte 00 is written 00 02; other bytes as themselves.
unfoldable pub escaped : ℕ → List ℕ
escaped zero = 0x00 ∷ 0x02 ∷ []
escaped (suc b) = suc b ∷ []

unfoldable pub component_key : Component → List ℕ
component_key [] = component_end
component_key (b ∷ c) = escaped b ++ component_key c

unfoldable pub path_key : Components → List ℕ
path_key [] = path_end
path_key (c ∷ cs) = component_key c ++ path_key cs

-- The last n bytes of a number, big-endian.
unfoldable pub be : ℕ → ℕ → List ℕ
be zero x = []
be (suc n) x = x / 256 ^ n % 256 ∷ be n x

unfoldable pub subspace_key : Subspace → List ℕ
subspace_key s = be 8 s.high ++ be 8 s.low

-- What a key stands for.
pub record Triple : Type 0 where
  pub subspace : Subspace
  pub path : Components
  pub timestamp : ℕ

abbrev pub triple : Subspace → Components → ℕ → Triple
triple s p t = record { subspace = s; path = p; timestamp = t }

-- Subspace-first: subspace, path, timestamp. Time-first: timestamp, subspace, path.
unfoldable pub spt_key : Triple → List ℕ
spt_key t = subspace_key t.subspace ++ (path_key t.path ++ be 8 t.timestamp)

unfoldable pub tsp_key : Triple → List ℕ
tsp_key t = be 8 t.timestamp ++ (subspace_key t.subspace ++ path_key t.path)

-- The most bytes of a path's key, and of a key: each byte escaped, a mark for each component and one for the path.
abbrev pub path_key_most : Figures → ℕ
path_key_most f = 2 * f.mpl + 2 * f.mcc + 2

abbrev pub key_most : Figures → ℕ
key_most f = 16 + path_key_most f + 8

-- Whether a key may be written: 2 for a buffer that some key would not fit, then 4 for an illegal path.
unfoldable pub writable : (room legal : Bool) → Said Unit
writable false legal = refuses short_buffer
writable true false = refuses illegal_path
writable true true = says tt

-- The answer and the buffer: 2 for a buffer that some key would not fit, then 4 for an illegal path; a refusal changes nothing.
unfoldable pub encoded : (room legal : Bool) → List ℕ → Said ℕ
encoded false legal key = refuses short_buffer
encoded true false key = refuses illegal_path
encoded true true key = says (length key)

unfoldable pub encoded_in : (room legal : Bool) → List ℕ → List ℕ → List ℕ
encoded_in false legal key old = old
encoded_in true false key old = old
encoded_in true true key old = put key old

unfoldable pub roomy : Figures → List ℕ → Bool
roomy f out = leb (key_most f) (length out)
