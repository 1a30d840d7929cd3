-- A record: the key of an entry and its value. What it says is the entry that is stored, with its token, available length and origin.
use Rattle.std.specs.Prelude.{ℕ, ◌+◌, ◌-◌, ◌<◌, ◌^◌, ◌≡◌, List, [], ◌∷◌, ◌++◌, Bool, true, ◌&&◌, length, take, drop, leb}
use Rattle.laws.specs.Order.{Order, below, on}
use Rattle.laws.specs.Prefix.{same_number, same_list}
use Rattle.data_model.specs.Said.{Said, refuses, says}
use Rattle.data_model.specs.Path.{Figures, is_path, path_of, same_path, by_bytes}
use Rattle.data_model.specs.Subspace.{first_subspace, same_subspace}
use Rattle.data_model.specs.Entry.{Entry, entry_of}
use Rattle.data_model.specs.Origin.{origin_kind, origin_session, origin_of, same_origin}
use Rattle.data_model.specs.declared.entry_origin.EntryOrigin.{EntryOrigin}
use Rattle.keys.specs.Encode.{Triple, triple, spt_key, tsp_key}
use Rattle.keys.specs.Decode.{Taken, refused, took, read_spt, read_tsp, was_read}
use Rattle.keys.specs.declared.decode.EntryKey.{EntryKey}
use Rattle.key_laws.specs.KeyOrder.{Sized, spt_order, tsp_order}
use Rattle.tree.specs.Value.{available_at, value_length, value_bytes, read_value, is_value}
use Rattle.tree.specs.declared.value.Value.{Value}
use Rattle.tree.specs.declared.stored.KeyOrder.{KeyOrder}
use Rattle.tree.specs.declared.stored.KeyOrder.TheVariants.{Spt, Tsp}
use Rattle.tree.specs.declared.stored.LengthyAuthorisedEntry.{LengthyAuthorisedEntry}

-- The keys of the two trees: subspace-first and time-first.
unfoldable pub key_in : KeyOrder → Triple → List ℕ
key_in Spt t = spt_key t
key_in Tsp t = tsp_key t

unfoldable pub read_in : KeyOrder → Figures → List ℕ → Taken Triple
read_in Spt f k = read_spt f k
read_in Tsp f k = read_tsp f k

-- The order of triples that the keys have as bytes.
unfoldable pub order_in : KeyOrder → Triple → Triple → Order
order_in Spt a b = spt_order a b
order_in Tsp a b = tsp_order a b

-- The value is what stands at a record's end, the key all before it.
abbrev pub key_of : List ℕ → List ℕ
key_of r = take (length r - value_length) r

abbrev pub value_part : List ℕ → List ℕ
value_part r = drop (length r - value_length) r

-- Where the available length begins in a record.
abbrev pub available_in : List ℕ → ℕ
available_in r = (length r - value_length) + available_at

-- By keys, as bytes.
abbrev pub key_below : List ℕ → List ℕ → Bool
key_below = below (on key_of by_bytes)

-- A record is a key that an encoder writes and a value.
unfoldable pub is_key : KeyOrder → Figures → List ℕ → Bool
is_key o f k = was_read (read_in o f k)

unfoldable pub is_record : KeyOrder → Figures → List ℕ → Bool
is_record o f r = leb value_length (length r) && (is_key o f (key_of r) && is_value (read_value (value_part r)))

-- What is stored: entries are the same by the data model's meaning of an entry, whatever bytes stand behind a path.
pub record Stored : Type 0 where
  pub entry : Entry
  pub token : List ℕ
  pub available : ℕ
  pub origin : EntryOrigin

unfoldable pub stored_from : List ℕ → Triple → Value → Stored
stored_from namespace t v = record {
  entry = record {
    namespace = namespace;
    subspace = t.subspace;
    path = t.path;
    rank = record { timestamp = t.timestamp; payload_digest = v.payload_digest; payload_length = v.payload_length };
  };
  token = v.token;
  available = v.available;
  origin = origin_of v.kind v.session;
}

-- What a key says; all 0 for what is no key.
unfoldable pub triple_read : Taken Triple → Triple
triple_read refused = triple first_subspace [] 0
triple_read (took t u) = t

-- The same as a decoder hands it out.
abbrev pub entry_key : Triple → EntryKey
entry_key t = record { subspace = t.subspace; path = path_of t.path; timestamp = t.timestamp }

unfoldable pub stored : KeyOrder → Figures → List ℕ → List ℕ → Stored
stored o f namespace r = stored_from namespace (triple_read (read_in o f (key_of r))) (read_value (value_part r))

-- What the records of a tree say.
abbrev pub contents : KeyOrder → Figures → List ℕ → List (List ℕ) → List Stored
contents o f namespace [] = []
contents o f namespace (r ∷ rs) = stored o f namespace r ∷ contents o f namespace rs

-- How many bytes an encoder has written.
unfoldable pub written_length : Said ℕ → ℕ
written_length (says n) = n
written_length (refuses r) = 0

-- The record of what is stored.
unfoldable pub triple_of : Entry → Triple
triple_of e = triple e.subspace e.path e.rank.timestamp

unfoldable pub value_for : Stored → Value
value_for s = record {
  payload_length = s.entry.rank.payload_length;
  payload_digest = s.entry.rank.payload_digest;
  token = s.token;
  available = s.available;
  kind = origin_kind s.origin;
  session = origin_session s.origin;
}

unfoldable pub record_of : KeyOrder → Stored → List ℕ
record_of o s = key_in o (triple_of s.entry) ++ value_bytes (value_for s)

-- What is stored as the language has it: a path within the figures, 64-bit numbers, a digest of 32 bytes and a token of 64.
pub record Lawful (f : Figures) (s : Stored) : Type 0 where
  pub path : is_path f s.entry.path ≡ true
  pub sized : Sized (triple_of s.entry)
  pub payload : s.entry.rank.payload_length < 2 ^ 64
  pub digest : length s.entry.rank.payload_digest ≡ 32
  pub token : length s.token ≡ 64
  pub available : s.available < 2 ^ 64
  pub session : origin_session s.origin < 2 ^ 64

-- The value that is handed out for it, and what such a value says.
unfoldable pub lengthy : Stored → LengthyAuthorisedEntry
lengthy s = record {
  entry = record {
    namespace_id = s.entry.namespace;
    subspace_id = s.entry.subspace;
    path = path_of s.entry.path;
    timestamp = s.entry.rank.timestamp;
    payload_length = s.entry.rank.payload_length;
    payload_digest = s.entry.rank.payload_digest;
  };
  token = s.token;
  available = s.available;
  origin = s.origin;
}

unfoldable pub stored_of : LengthyAuthorisedEntry → Stored
stored_of a = record { entry = entry_of a.entry; token = a.token; available = a.available; origin = a.origin }

-- Equality, as tests.
unfoldable pub same_entry : Entry → Entry → Bool
same_entry a b =
    same_list same_number a.namespace b.namespace && (same_subspace a.subspace b.subspace && (same_path a.path b.path &&
    (same_number a.rank.timestamp b.rank.timestamp && (same_list same_number a.rank.payload_digest b.rank.payload_digest &&
    same_number a.rank.payload_length b.rank.payload_length))))

unfoldable pub same_stored : Stored → Stored → Bool
same_stored a b =
    same_entry a.entry b.entry && (same_list same_number a.token b.token && (same_number a.available b.available && same_origin a.origin b.origin))
