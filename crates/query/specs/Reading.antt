-- What every call that only reads begins with: 1, 2, 3, and 4 for the paths that it looks at; a step of a listing has 5 besides, for the key that it remembers.
use Rattle.std.specs.Prelude.{ℕ, Bool, true, List, [], ◌∷◌}
use Rattle.data_model.specs.Path.{Figures, legal}
use Rattle.data_model.specs.Range.{legal_range}
use Rattle.data_model.specs.Refusal.{illegal_path, no_key}
use Rattle.data_model.specs.declared.area.Area.{Area}
use Rattle.data_model.specs.declared.range_3d.Range3d.{Range3d}
use Rattle.tree.specs.Stored.{is_key}
use Rattle.tree.specs.declared.stored.KeyOrder.TheVariants.{Spt}
use Rattle.store.specs.Store.{Store}
use Rattle.store.specs.Refusal.{unless, ◌or_else◌, store_refusal}

-- `paths`: the paths that are looked at are legal.
unfoldable pub read_refusal : Figures → Store → (paths : Bool) → ℕ
read_refusal f s paths = store_refusal f s true or_else unless paths illegal_path

-- Of an area its path, of a 3d range the start of its paths and the end if it is closed.
abbrev pub area_refusal : Figures → Store → Area → ℕ
area_refusal f s area = read_refusal f s (legal f area.path)

abbrev pub range_refusal : Figures → Store → Range3d → ℕ
range_refusal f s range = read_refusal f s (legal_range f range.paths)

-- What a listing may remember: at its start the empty key, else a key that the subspace-first encoder writes.
unfoldable pub is_remembered : Figures → List ℕ → Bool
is_remembered f [] = true
is_remembered f (b ∷ k) = is_key Spt f (b ∷ k)

-- What a step of a listing begins with: 1, 2, 3, 4, and then 5 for the key that it remembers. `paths`: the paths that are looked at are legal.
unfoldable pub list_refusal : Figures → Store → (paths : Bool) → (last : List ℕ) → ℕ
list_refusal f s paths last = read_refusal f s paths or_else unless (is_remembered f last) no_key

abbrev pub area_list_refusal : Figures → Store → Area → (last : List ℕ) → ℕ
area_list_refusal f s area last = list_refusal f s (legal f area.path) last

abbrev pub range_list_refusal : Figures → Store → Range3d → (last : List ℕ) → ℕ
range_list_refusal f s range last = list_refusal f s (legal_range f range.paths) last
