-- The starred examples of 01 and those of 02's U5, over the definitions that the contracts cite, and traps of the path order and of reading.
use Rattle.std.specs.Prelude.{ℕ, ◌-◌, ◌^◌, ◌≡◌, List, [], ◌∷◌, ◌++◌, true, false, length, replicate}
use Rattle.laws.specs.Order.{less}
use Rattle.data_model.specs.Path.{field, capacity, Components, legal, path_of, by_components, is_prefix}
use Rattle.keys.specs.Encode.{path_key}
use Rattle.keys.specs.Decode.{StepRead, component, end_of_path, component_read, read_spt, read_tsp, decoded}
use Rattle.keys.specs.declared.decode.EntryKey.{EntryKey}
use Rattle.data_model.specs.Said.{Said, refuses, says}
use Rattle.data_model.specs.Subspace.{first_subspace}
use Rattle.data_model.specs.Entry.{Entry, newer}
use Rattle.data_model.specs.Range.{times_include}
use Rattle.data_model.specs.Area.{area_range}
use Rattle.data_model.specs.declared.path.Path.{Path}
use Rattle.data_model.specs.declared.range.RangeEnd.TheVariants.{Closed, Open}
use Rattle.data_model.specs.declared.range.Range.{Range}
use Rattle.data_model.specs.declared.area.AreaSubspace.{AreaSubspace}

-- A path value with so many components that end there, all its bytes 61.
abbrev pub value : ℕ → List ℕ → Path
value count ends = record { bytes = replicate capacity.mpl 0x61; ends = ends ++ replicate (capacity.mcc - length ends) 0; count = count }

infix 40 ◌≺◌
abbrev pub ◌≺◌ : Components → Components → Type 0
p ≺ q = by_components p q ≡ less

-- The range of paths of an area at a path, whatever its subspace and times.
abbrev pub AreaPaths : Components → Range Path → Type 0
AreaPaths p r = (s : AreaSubspace) (t : Range ℕ) → (area_range field (record { subspace = s; path = path_of p; times = t })).paths ≡ r

abbrev pub [61] : Components
[61] = (0x61 ∷ []) ∷ []

abbrev pub [6100] : Components
[6100] = (0x61 ∷ 0x00 ∷ []) ∷ []

-- What a decoder answers to the key of the first subspace, a path and timestamp 0.
abbrev pub decoded_to : Components → Said EntryKey
decoded_to p = says (record { subspace = first_subspace; path = path_of p; timestamp = 0 })

-- What a decoder answers to bytes that are no key: 5, and nothing else.
abbrev pub not_decoded : Said EntryKey
not_decoded = refuses 5

-- What the reader of components answers at position 0 where a component stands: its length, the position behind it, its bytes.
abbrev pub read_to : List ℕ → ℕ → StepRead
read_to c position = record { next = says (component (length c) position); bytes = c ++ replicate (capacity.mcl - length c) 0 }

-- What it answers where the path ends: the position behind the end.
abbrev pub path_ends : StepRead
path_ends = record { next = says (end_of_path 2); bytes = replicate capacity.mcl 0 }

-- What it answers where neither stands: 5.
abbrev pub not_read : StepRead
not_read = record { next = refuses 5; bytes = replicate capacity.mcl 0 }

-- What is answered where a path's bytes stand behind 16 bytes 00 of subspace and before the bytes of a timestamp; behind 24 bytes 00 of timestamp and
-- subspace; and alone, by the reader of components.
abbrev pub Reads : (path_bytes time_bytes : List ℕ) → Said EntryKey → StepRead → Type 0
Reads path_bytes time_bytes answer step =
    (decoded (read_spt field (replicate 16 0 ++ (path_bytes ++ time_bytes))) ≡ answer) × (decoded (read_tsp field (replicate 24 0 ++ path_bytes)) ≡ answer)
    × (component_read field 0 path_bytes ≡ step)

-- The bytes of timestamp 0. A subspace-first key that is cut behind its path bytes has none.
abbrev pub time_0 : List ℕ
time_0 = replicate 8 0

pub record Examples : Type 0 where
  pub empty-path : path_key [] ≡ 0x00 ∷ 0x00 ∷ []
  pub empty_component : path_key ([] ∷ []) ≡ 0x00 ∷ 0x01 ∷ 0x00 ∷ 0x00 ∷ []
  pub two_components : path_key ((0x62 ∷ []) ∷ (0x00 ∷ []) ∷ []) ≡ 0x62 ∷ 0x00 ∷ 0x01 ∷ 0x00 ∷ 0x02 ∷ 0x00 ∷ 0x01 ∷ 0x00 ∷ 0x00 ∷ []
  pub path_order : ([] ≺ [] ∷ []) × ([] ∷ [] ≺ (0x00 ∷ []) ∷ []) × ((0x00 ∷ []) ∷ [] ≺ (0x01 ∷ []) ∷ [])
  pub prefix_by_component : (is_prefix [61] ((0x61 ∷ []) ∷ (0x62 ∷ []) ∷ []) ≡ true) × (is_prefix [61] ((0x61 ∷ 0x62 ∷ []) ∷ []) ≡ false)
  pub tie_not_newer : (a b : Entry) → a.rank.timestamp ≡ b.rank.timestamp → a.rank.payload_digest ≡ b.rank.payload_digest
      → a.rank.payload_length ≡ b.rank.payload_length → (newer a b ≡ false) × (newer b a ≡ false)
  pub closed_times : (times_include (record { start = 5; end = Closed 10 }) 9 ≡ true) × (times_include (record { start = 5; end = Closed 10 }) 10 ≡ false)
  pub open_times : times_include (record { start = 0; end = Open }) (2 ^ 64 - 1) ≡ true
  pub component_of_64 : (legal field (value 1 (64 ∷ [])) ≡ true) × (legal field (value 1 (65 ∷ [])) ≡ false)
  pub components_8 : (legal field (value 8 (1 ∷ 2 ∷ 3 ∷ 4 ∷ 5 ∷ 6 ∷ 7 ∷ 8 ∷ [])) ≡ true) × (legal field (value 9 (1 ∷ 2 ∷ 3 ∷ 4 ∷ 5 ∷ 6 ∷ 7 ∷ 8 ∷ [])) ≡ false)
  pub total_128 : (legal field (value 2 (64 ∷ 128 ∷ [])) ≡ true) × (legal field (value 3 (64 ∷ 128 ∷ 129 ∷ [])) ≡ false)
  pub area_at_61 : AreaPaths [61] (record { start = path_of [61]; end = Closed (path_of [6100]) })
  pub area_at_empty : AreaPaths [] (record { start = path_of []; end = Open })
  pub order_traps : ([61] ≺ (0x61 ∷ []) ∷ [] ∷ []) × ((0x61 ∷ []) ∷ [] ∷ [] ≺ (0x61 ∷ []) ∷ (0xff ∷ []) ∷ [])
      × ((0x61 ∷ []) ∷ (0xff ∷ []) ∷ [] ≺ [6100]) × ([6100] ≺ (0x62 ∷ []) ∷ [])
  -- The cases of the escape table (02, U5), then traps of reading.
  pub ordinary : Reads (0x61 ∷ 0x00 ∷ 0x01 ∷ 0x00 ∷ 0x00 ∷ []) time_0 (decoded_to [61]) (read_to (0x61 ∷ []) 3)
  pub zero_zero : Reads (0x00 ∷ 0x00 ∷ []) time_0 (decoded_to []) path_ends
  pub zero_one : Reads (0x00 ∷ 0x01 ∷ 0x00 ∷ 0x00 ∷ []) time_0 (decoded_to ([] ∷ [])) (read_to [] 2)
  pub zero_two : Reads (0x00 ∷ 0x02 ∷ 0x00 ∷ 0x01 ∷ 0x00 ∷ 0x00 ∷ []) time_0 (decoded_to ((0x00 ∷ []) ∷ [])) (read_to (0x00 ∷ []) 4)
  pub zero_other : Reads (0x00 ∷ 0x03 ∷ 0x00 ∷ 0x01 ∷ 0x00 ∷ 0x00 ∷ []) time_0 not_decoded not_read
      × Reads (0x00 ∷ 0xff ∷ 0x00 ∷ 0x01 ∷ 0x00 ∷ 0x00 ∷ []) time_0 not_decoded not_read
      × Reads (0x61 ∷ 0x00 ∷ 0x03 ∷ 0x00 ∷ 0x01 ∷ 0x00 ∷ 0x00 ∷ []) time_0 not_decoded not_read
  pub zero_last : Reads (0x00 ∷ []) [] not_decoded not_read
      × Reads (0x61 ∷ 0x00 ∷ []) [] not_decoded not_read
      × Reads (0x61 ∷ 0x62 ∷ 0x63 ∷ 0x64 ∷ 0x65 ∷ 0x66 ∷ 0x67 ∷ 0x00 ∷ []) [] not_decoded not_read
  pub reading_traps : Reads (0x61 ∷ 0x00 ∷ 0x00 ∷ []) time_0 not_decoded not_read
      × Reads (0x61 ∷ []) time_0 not_decoded not_read
      × Reads (replicate 64 0x61 ++ (0x00 ∷ 0x02 ∷ 0x00 ∷ 0x01 ∷ 0x00 ∷ 0x00 ∷ [])) time_0 not_decoded not_read
      × Reads [] [] not_decoded not_read
