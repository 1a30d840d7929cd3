-- One tree: what makes it well-formed, and where a key stands in it.
use Rattle.std.specs.Prelude.{ℕ, ◌+◌, ◌*◌, ◌^◌, ◌≤◌, ◌<◌, ◌≡◌, List, Bool, true, false, ◌&&◌, length, get_or, Result, Ok, Err}
use Rattle.laws.specs.Order.{is_less, is_same}
use Rattle.laws.specs.Prefix.{same_number, same_list}
use Rattle.laws.specs.Sorted.{any, all, keep, ascending, Ascends, ◌∈◌}
use Rattle.layout.specs.Layout.{records, record_at, laid_out, tree_bytes, dir_numbers}
use Rattle.data_model.specs.Path.{Figures, field, by_bytes}
use Rattle.tree.specs.Value.{value_length}
use Rattle.tree.specs.Stored.{key_of, value_part, key_below, is_record, Stored, same_stored}
use Rattle.tree.specs.declared.stored.KeyOrder.{KeyOrder}

-- The pairs of the directory chain from 0 without gaps and zeros stand behind; each record is a key that an encoder writes and a value;
-- the keys ascend strictly.
unfoldable pub well_formed : KeyOrder → Figures → ℕ → List ℕ → List ℕ → Bool
well_formed o f count dir tree = laid_out count dir tree && (all (is_record o f) (records count dir tree) && ascending key_below (records count dir tree))

-- The same as facts: the theorem `well-formed` turns the one into the other.
pub record WellFormed (o : KeyOrder) (f : Figures) (count : ℕ) (dir tree : List ℕ) : Type 0 where
  pub many : length (records count dir tree) ≡ count
  pub few : 2 * count ≤ length dir
  pub numbers : dir ≡ dir_numbers (length dir) (records count dir tree)
  pub bytes : tree ≡ tree_bytes (length tree) (records count dir tree)
  pub each : (r : List ℕ) → r ∈ records count dir tree → is_record o f r ≡ true
  pub ascends : Ascends key_below (records count dir tree)

-- Pair k is there, its record within the bytes and at least as long as a value.
pub record InBounds (k : ℕ) (dir tree : List ℕ) : Type 0 where
  pub pair : 2 * k + 1 < length dir
  pub least : value_length ≤ get_or dir (2 * k + 1) 0
  pub inside : get_or dir (2 * k) 0 + get_or dir (2 * k + 1) 0 ≤ length tree

-- The same, and what it cuts out is a record.
pub record Readable (o : KeyOrder) (k : ℕ) (dir tree : List ℕ) : Type 0 where
  pub bounds : InBounds k dir tree
  pub is : is_record o field (record_at k dir tree) ≡ true

-- What the functions ask of a tree that was tested.
pub record Formed (o : KeyOrder) (count : ℕ) (dir tree : List ℕ) : Type 0 where
  pub few : 2 * count ≤ length dir
  pub small : length tree < 2 ^ 32
  pub inside : (k : ℕ) → k < count → get_or dir (2 * k) 0 + get_or dir (2 * k + 1) 0 ≤ length tree
  pub each : all (is_record o field) (records count dir tree) ≡ true

-- What a search by keys asks, whatever the order that the keys are of: each pair cuts a record with a value out of the bytes, and the keys ascend.
pub record Searchable (count : ℕ) (dir tree : List ℕ) : Type 0 where
  pub few : 2 * count ≤ length dir
  pub bounds : (k : ℕ) → k < count → InBounds k dir tree
  pub ascends : Ascends key_below (records count dir tree)

-- A tree that was tested, and keys that ascend.
pub record Ordered (o : KeyOrder) (count : ℕ) (dir tree : List ℕ) : Type 0 where
  pub formed : Formed o count dir tree
  pub ascends : Ascends key_below (records count dir tree)

-- A tree that was tested, and a chain of pairs with zeros behind.
pub record Whole (o : KeyOrder) (count : ℕ) (dir tree : List ℕ) : Type 0 where
  pub formed : Formed o count dir tree
  pub laid : laid_out count dir tree ≡ true

-- How many keys are below a key, and whether it is there.
unfoldable pub keys_below : List ℕ → List (List ℕ) → ℕ
keys_below key recs = length (keep (λ (r : List ℕ). is_less (by_bytes (key_of r) key)) recs)

unfoldable pub has_key : List ℕ → List (List ℕ) → Bool
has_key key recs = any (λ (r : List ℕ). is_same (by_bytes (key_of r) key)) recs

-- What a search answers: where the key stands, or else where it would stand; and whether it stands there.
abbrev pub place_in : Result ℕ ℕ → ℕ
place_in (Ok at) = at
place_in (Err at) = at

abbrev pub is_found : Result ℕ ℕ → Bool
is_found (Ok at) = true
is_found (Err at) = false

-- Whether a record of this key and this value is there.
unfoldable pub has_record : List ℕ → List ℕ → List (List ℕ) → Bool
has_record key value recs = any (λ (r : List ℕ). same_list same_number (key_of r) key && same_list same_number (value_part r) value) recs

-- Each of the first is among the second, with the same token, available length and origin.
unfoldable pub within : List Stored → List Stored → Bool
within l m = all (λ (a : Stored). any (same_stored a) m) l
