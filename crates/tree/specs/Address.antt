-- An address: the bytes of a subspace and a path, as they stand in both keys; and the open address, without the path's end.
use Rattle.std.specs.Prelude.{ℕ, List, [], ◌∷◌, ◌++◌}
use Rattle.data_model.specs.Path.{field, Components}
use Rattle.data_model.specs.declared.entry.Rank.{Rank}
use Rattle.data_model.specs.declared.parameters.Subspace.{Subspace}
use Rattle.keys.specs.Encode.{component_key, path_key, subspace_key, Triple}
use Rattle.tree.specs.Value.{read_value}
use Rattle.tree.specs.Stored.{read_in, key_of, value_part, triple_read}
use Rattle.tree.specs.declared.stored.KeyOrder.{KeyOrder}

unfoldable pub address_key : Subspace → Components → List ℕ
address_key s p = subspace_key s ++ path_key p

unfoldable pub open_path : Components → List ℕ
open_path [] = []
open_path (c ∷ cs) = component_key c ++ open_path cs

unfoldable pub open_key : Subspace → Components → List ℕ
open_key s p = subspace_key s ++ open_path p

-- What the key of a record says, its address, and its open address.
abbrev pub triple_at : KeyOrder → List ℕ → Triple
triple_at o r = triple_read (read_in o field (key_of r))

abbrev pub address_at : KeyOrder → List ℕ → List ℕ
address_at o r = address_key (triple_at o r).subspace (triple_at o r).path

abbrev pub open_at : KeyOrder → List ℕ → List ℕ
open_at o r = open_key (triple_at o r).subspace (triple_at o r).path

-- What decides which of two records is newer: the time in its key, the digest and the payload length in its value.
abbrev pub rank_at : KeyOrder → List ℕ → Rank
rank_at o r = record {
  timestamp = (triple_at o r).timestamp;
  payload_digest = (read_value (value_part r)).payload_digest;
  payload_length = (read_value (value_part r)).payload_length;
}

-- The slots of the table of times by which a record is looked for first. Nothing is asked of what stands in them.
abbrev pub slots : ℕ
slots = 16381
