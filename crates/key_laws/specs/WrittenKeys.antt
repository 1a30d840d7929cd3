-- "The port refuses every key that no encoder writes", over the answers of the encoders and the decoders. Theorem `only-written`.
use Rattle.std.specs.Prelude.{ℕ, ◌+◌, ◌≡◌, List, true, false, ◌↔◌, length, take}
use Rattle.data_model.specs.Path.{field, capacity, components, legal, path_of}
use Rattle.data_model.specs.declared.path.Path.{Path}
use Rattle.data_model.specs.declared.parameters.Subspace.{Subspace}
use Rattle.keys.specs.Encode.{Triple, triple, path_key, spt_key, tsp_key, roomy, encoded, encoded_in}
use Rattle.keys.specs.Decode.{read_path, read_spt, read_tsp, was_read, decoded, path_read}
use Rattle.data_model.specs.Said.{Said, says, number_of}
use Rattle.keys.specs.declared.decode.EntryKey.{EntryKey}
use Rattle.keys.specs.declared.decode.PathRead.{PathRead}
use Rattle.key_laws.specs.Bytes.{Bytes}
use Rattle.key_laws.specs.KeyOrder.{Sized}

-- A path value as the language has it, legal or not: 128 bytes, each below 256, and 8 ends.
pub record PathIsValue (p : Path) : Type 0 where
  pub room : length p.bytes ≡ capacity.mpl
  pub bytes : Bytes p.bytes
  pub ends : length p.ends ≡ capacity.mcc

-- The encoder of such keys, handed these values and some buffer, writes the key k: it answers the length of k, and the buffer then begins with k.
pub record Writes (key : Triple → List ℕ) (s : Subspace) (p : Path) (t : ℕ) (k : List ℕ) : Type 0 where
  pub value : PathIsValue p
  pub sized : Sized (triple s (components p) t)
  pub buffer : List ℕ
  pub answers : encoded (roomy field buffer) (legal field p) (key (triple s (components p) t)) ≡ says (length k)
  pub begins : take (length k) (encoded_in (roomy field buffer) (legal field p) (key (triple s (components p) t)) buffer) ≡ k

-- An answer has values, and of them something holds.
pub record Gives {A : Type 0} (d : Said A) (holds : A → Type 0) : Type 0 where
  pub values : A
  pub answers : d ≡ says values
  pub written : holds values

-- What a decoder answers to the bytes k: 5 exactly if the encoder writes k for no values; else 0, and values that the encoder writes k for. Whichever
-- values it writes k for, the answer has their subspace, their timestamp and their path, which is handed out with zeros behind its total.
pub record Decodes (key : Triple → List ℕ) (k : List ℕ) (d : Said EntryKey) : Type 0 where
  pub refuses : (number_of d ≡ 5) ↔ ((s : Subspace) (p : Path) (t : ℕ) → Writes key s p t k → ⊥)
  pub takes : (number_of d ≡ 5 → ⊥) → (number_of d ≡ 0) × Gives d (λ v. Writes key v.subspace v.path v.timestamp k)
  pub back : (s : Subspace) (p : Path) (t : ℕ) → Writes key s p t k → d ≡ says (record { subspace = s; path = path_of (components p); timestamp = t })

-- The bytes of a legal path stand at the front, as an encoder writes them.
pub record Begins (p : Path) (k : List ℕ) : Type 0 where
  pub value : PathIsValue p
  pub lawful : legal field p ≡ true
  pub front : take (length (path_key (components p))) k ≡ path_key (components p)

-- What the decoder of a path answers at a position, where the bytes k begin: 5 exactly if no path stands there; else 0, the path and the position behind it.
pub record DecodesPath (at : ℕ) (k : List ℕ) (d : Said PathRead) : Type 0 where
  pub refuses : (number_of d ≡ 5) ↔ ((p : Path) → Begins p k → ⊥)
  pub takes : (number_of d ≡ 5 → ⊥) → (number_of d ≡ 0) × Gives d (λ r. Begins r.path k)
  pub back : (p : Path) → Begins p k → d ≡ says (record { path = path_of (components p); next = at + length (path_key (components p)) })

-- Whatever bytes are handed in for decoding, the contracts' right-hand sides are that. `is_spt_key` and `is_tsp_key` say no exactly where the decoder answers 5.
pub record OnlyWritten : Type 0 where
  pub spt : (k : List ℕ) → Bytes k → Decodes spt_key k (decoded (read_spt field k))
  pub tsp : (k : List ℕ) → Bytes k → Decodes tsp_key k (decoded (read_tsp field k))
  pub path : (at : ℕ) (k : List ℕ) → Bytes k → DecodesPath at k (path_read at (read_path field k))
  pub is_spt : (k : List ℕ) → (was_read (read_spt field k) ≡ false) ↔ (number_of (decoded (read_spt field k)) ≡ 5)
  pub is_tsp : (k : List ℕ) → (was_read (read_tsp field k) ≡ false) ↔ (number_of (decoded (read_tsp field k)) ≡ 5)
