-- A store: its state, and the four buffers that it is lent. What it holds, what makes it well-formed, and its bytes for what it is to hold.
use Rattle.std.specs.Prelude.{ℕ, ◌+◌, ◌*◌, ◌≡◌, List, ◌++◌, map, Bool, ◌&&◌, length, take, drop, leb}
use Rattle.layout.specs.Layout.{records, tree_bytes, dir_numbers}
use Rattle.data_model.specs.Path.{Figures}
use Rattle.keys.specs.Encode.{key_most}
use Rattle.tree.specs.Value.{value_length}
use Rattle.tree.specs.Stored.{Stored, contents, record_of}
use Rattle.tree.specs.Tree.{well_formed, within}
use Rattle.tree.specs.Apart.{no_address_twice, none_prunes}
use Rattle.tree.specs.declared.stored.KeyOrder.{KeyOrder}
use Rattle.tree.specs.declared.stored.KeyOrder.TheVariants.{Spt, Tsp}
use Rattle.tally.specs.Tally.{tally_room, tally_holding}
use Rattle.store.specs.declared.state.State.{State}

-- The most entries of a store, and the most bytes of a record.
abbrev pub limit_most : ℕ
limit_most = 1024

abbrev pub record_most : Figures → ℕ
record_most f = key_most f + value_length

-- A state with another count.
abbrev pub state_with : State → (count : ℕ) → State
state_with s n = record { namespace_id = s.namespace_id; count = n; limit = s.limit }

pub record Store : Type 0 where
  pub state : State
  pub spt : List ℕ
  pub spt_dir : List ℕ
  pub tsp : List ℕ
  pub tsp_dir : List ℕ

abbrev pub store_of : State → List ℕ → List ℕ → List ℕ → List ℕ → Store
store_of s a b c d = record { state = s; spt = a; spt_dir = b; tsp = c; tsp_dir = d }

-- The bytes and the numbers that a limit is given of each buffer: nothing beyond is touched or looked at.
abbrev pub tree_room : Figures → ℕ → ℕ
tree_room f limit = record_most f * limit

abbrev pub dir_room : ℕ → ℕ
dir_room limit = 2 * limit

unfoldable pub tree_of : Figures → KeyOrder → Store → List ℕ
tree_of f Spt s = take (tree_room f s.state.limit) s.spt
tree_of f Tsp s = take (tree_room f s.state.limit) s.tsp

unfoldable pub dir_of : KeyOrder → Store → List ℕ
dir_of Spt s = take (dir_room s.state.limit) s.spt_dir
dir_of Tsp s = take (dir_room s.state.limit) s.tsp_dir

-- What a tree of the store holds.
unfoldable pub held : Figures → KeyOrder → Store → List Stored
held f o s = contents o f s.state.namespace_id (records s.state.count (dir_of o s) (tree_of f o s))

-- 01, "A well-formed store".
unfoldable pub well_formed_tree : Figures → KeyOrder → Store → Bool
well_formed_tree f o s = well_formed o f s.state.count (dir_of o s) (tree_of f o s)

unfoldable pub same_entries : List Stored → List Stored → Bool
same_entries l m = within l m && within m l

unfoldable pub well_formed_store : Figures → Store → Bool
well_formed_store f s =
    leb s.state.count s.state.limit && (well_formed_tree f Spt s && (well_formed_tree f Tsp s &&
    (same_entries (held f Spt s) (held f Tsp s) && (no_address_twice (held f Spt s) && none_prunes (held f Spt s)))))

-- The same of two trees in their rooms, whatever the limit: what is tested once the count is within the limit.
unfoldable pub well_formed_trees : Figures → (namespace : List ℕ) → (count : ℕ) → (spt spt_dir tsp tsp_dir : List ℕ) → Bool
well_formed_trees f namespace count spt spt_dir tsp tsp_dir =
    well_formed Spt f count spt_dir spt && (well_formed Tsp f count tsp_dir tsp && (same_entries in_spt (contents Tsp f namespace (records count tsp_dir tsp)) &&
    (no_address_twice in_spt && none_prunes in_spt)))
  where
    in_spt : List Stored
    in_spt = contents Spt f namespace (records count spt_dir spt)

-- What the two trees are to hold.
pub record Held : Type 0 where
  pub spt : List Stored
  pub tsp : List Stored

unfoldable pub held_by : Figures → Store → Held
held_by f s = record { spt = held f Spt s; tsp = held f Tsp s }

-- The buffers that hold it: records from 0 on and zeros up to the limit's room; beyond it as before.
unfoldable pub tree_holding : Figures → KeyOrder → ℕ → List Stored → List ℕ → List ℕ
tree_holding f o limit l old = tree_bytes (tree_room f limit) (map (record_of o) l) ++ drop (tree_room f limit) old

unfoldable pub dir_holding : KeyOrder → ℕ → List Stored → List ℕ → List ℕ
dir_holding o limit l old = dir_numbers (dir_room limit) (map (record_of o) l) ++ drop (dir_room limit) old

-- The store that holds it: the count is the number of entries.
unfoldable pub holding : Figures → Held → Store → Store
holding f h s = record {
  state = state_with s.state (length h.spt);
  spt = tree_holding f Spt s.state.limit h.spt s.spt;
  spt_dir = dir_holding Spt s.state.limit h.spt s.spt_dir;
  tsp = tree_holding f Tsp s.state.limit h.tsp s.tsp;
  tsp_dir = dir_holding Tsp s.state.limit h.tsp s.tsp_dir;
}

-- A store and its tally, which opening, ingestion and forgetting are lent beside it.
pub record Tallied : Type 0 where
  pub store : Store
  pub tally : List ℕ

abbrev pub tallied_of : State → List ℕ → List ℕ → List ℕ → List ℕ → (tally : List ℕ) → Tallied
tallied_of s a b c d t = record { store = store_of s a b c d; tally = t }

-- The tally's bytes in the limit's room.
abbrev pub tally_part : Tallied → List ℕ
tally_part w = take (tally_room w.store.state.limit) w.tally

-- A store with its tally, made to hold two lists: the trees as `holding` has them, the tally that of the entries.
abbrev pub tallied_holding : Figures → Held → Tallied → Tallied
tallied_holding f h w = record { store = holding f h w.store; tally = tally_holding w.store.state.limit h.spt w.tally }

-- A buffer is as long as when it was lent, and as it was beyond the room that is used.
pub record Lent (room : ℕ) (lent now : List ℕ) : Type 0 where
  pub long : length now ≡ length lent
  pub beyond : drop room now ≡ drop room lent
