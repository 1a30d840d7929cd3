-- What filing an entry in one tree asks, and what a change of one tree leaves.
use Rattle.std.specs.Prelude.{ℕ, ◌+◌, ◌*◌, ◌≤◌, ◌≡◌, List, map, Bool, true, cond, length, ltb, Option, Some, None, is_some, unwrap_or}
use Rattle.laws.specs.Lists.{put}
use Rattle.laws.specs.Sorted.{keep}
use Rattle.layout.specs.Layout.{records, tree_bytes, dir_numbers}
use Rattle.layout.specs.Marks.{marks_of, first_mark}
use Rattle.data_model.specs.Path.{field, legal, components}
use Rattle.data_model.specs.Entry.{entry_of}
use Rattle.tree.specs.Stored.{Stored, contents, record_of}
use Rattle.tree.specs.Tree.{Ordered, Whole}
use Rattle.tree.specs.declared.stored.KeyOrder.{KeyOrder}
use Rattle.tree.specs.declared.stored.LengthyAuthorisedEntry.{LengthyAuthorisedEntry}
use Rattle.tree.specs.Matching.{stands_at, is_forgotten}
use Rattle.store.specs.declared.change.Forgotten.{Forgotten}
use Rattle.store.specs.declared.change.Forgotten.TheVariants.{At, Within}
use Rattle.store.specs.Store.{limit_most, record_most}
use Rattle.store.specs.Ingest.{stays, NewTo}

-- What one tree in its room says.
abbrev pub in_tree : KeyOrder → (namespace : List ℕ) → (count : ℕ) → (dir tree : List ℕ) → List Stored
in_tree o namespace count dir tree = contents o field namespace (records count dir tree)

-- Marks that begin with those of what a test holds of, one for each.
abbrev pub Marked : (Stored → Bool) → List Stored → (marks : List ℕ) → Type 0
Marked p l marks = marks ≡ put (marks_of p l) marks

-- The place of the first that a test holds of, if there is one.
abbrev pub first_place : (Stored → Bool) → List Stored → Option ℕ
first_place p l = cond (ltb (first_mark (marks_of p l)) (length l)) (Some (first_mark (marks_of p l))) None

-- The buffers of a tree after a change to these entries: their records from 0 on and zeros behind. And how many they are.
pub record Changed (o : KeyOrder) (l : List Stored) (dir tree dir_after tree_after : List ℕ) (n : ℕ) : Type 0 where
  pub bytes : tree_after ≡ tree_bytes (length tree) (map (record_of o) l)
  pub numbers : dir_after ≡ dir_numbers (length dir) (map (record_of o) l)
  pub count : n ≡ length l

-- An entry may be filed in a tree: of its namespace, new there, with room for one more than stay.
pub record FilesIn (o : KeyOrder) (namespace : List ℕ) (count : ℕ) (dir tree : List ℕ) (a : LengthyAuthorisedEntry) : Type 0 where
  pub ordered : Ordered o count dir tree
  pub whole : Whole o count dir tree
  pub few : count ≤ limit_most
  pub path : legal field a.entry.path ≡ true
  pub named : a.entry.namespace_id ≡ namespace
  pub new : NewTo (in_tree o namespace count dir tree) (entry_of a.entry)
  pub bytes : record_most field * (length (keep (stays (entry_of a.entry)) (in_tree o namespace count dir tree)) + 1) ≤ length tree
  pub numbers : 2 * (length (keep (stays (entry_of a.entry)) (in_tree o namespace count dir tree)) + 1) ≤ length dir

-- What a forgetting takes out.
abbrev pub forgets : Forgotten → Stored → Bool
forgets (At subspace path) = stands_at subspace (components path)
forgets (Within area protected) = is_forgotten area (is_some protected) (unwrap_or protected area)

-- What a forgetting asks of the paths that it names. Where no area is protected, the area itself stands for it.
abbrev pub LegalPaths : Forgotten → Type 0
LegalPaths (At subspace path) = legal field path ≡ true
LegalPaths (Within area protected) = (legal field area.path ≡ true) × (legal field (unwrap_or protected area).path ≡ true)
