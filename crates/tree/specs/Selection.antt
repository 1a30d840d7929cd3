-- What a walk asks of a stored entry, its path as the bytes that stand for it in its keys. That it is what `Matching` asks of an area or a range is proved.
use Rattle.std.specs.Prelude.{ℕ, List, Bool, not, ◌&&◌}
use Rattle.laws.specs.Order.{is_less}
use Rattle.laws.specs.Prefix.{same_number, prefix_of}
use Rattle.data_model.specs.Path.{by_bytes}
use Rattle.data_model.specs.Range.{times_include, subspaces_include}
use Rattle.data_model.specs.Area.{area_subspace}
use Rattle.data_model.specs.Subspace.{first_subspace}
use Rattle.data_model.specs.declared.area.Area.{Area}
use Rattle.data_model.specs.declared.area.AreaSubspace.TheVariants.{Any}
use Rattle.data_model.specs.declared.path.Path.{Path}
use Rattle.data_model.specs.declared.range.RangeEnd.{RangeEnd}
use Rattle.data_model.specs.declared.range.RangeEnd.TheVariants.{Closed, Open}
use Rattle.data_model.specs.declared.range_3d.Range3d.{Range3d}
use Rattle.data_model.specs.declared.query_ignore_params.QueryIgnoreParams.{QueryIgnoreParams}
use Rattle.keys.specs.Encode.{path_key}
use Rattle.tree.specs.Stored.{Stored}
use Rattle.tree.specs.Matching.{let_through}
use Rattle.tree.specs.declared.selection.PathsSelected.{PathsSelected}
use Rattle.tree.specs.declared.selection.PathsSelected.TheVariants.{Under, From, Between}
use Rattle.tree.specs.declared.selection.Selection.{Selection}

-- What an area selects, but for the bytes of its path: its own subspace or any, its times, and all paths that begin with its path.
abbrev pub area_selection : Area → QueryIgnoreParams → Selection
area_selection a g = record {
  own = a.subspace;
  subspaces = record { start = first_subspace; end = Open };
  times = a.times;
  paths = Under;
  ignore = g;
}

-- Paths from one on: up to another, or without an end.
abbrev pub paths_up_to : RangeEnd Path → PathsSelected
paths_up_to (Closed p) = Between
paths_up_to Open = From

-- What a 3d range selects, but for the bytes of its paths: its subspaces and times, and paths from one on, up to another or without an end.
abbrev pub range_selection : Range3d → QueryIgnoreParams → Selection
range_selection r g = record { own = Any; subspaces = r.subspaces; times = r.times; paths = paths_up_to r.paths.end; ignore = g }

-- The bytes of a path begin with `low`; or they stand from `low` on; or from `low` on, up to and without `high`.
unfoldable pub selects_path : PathsSelected → (low high : List ℕ) → (path : List ℕ) → Bool
selects_path Under low high p = prefix_of same_number low p
selects_path From low high p = not (is_less (by_bytes p low))
selects_path Between low high p = not (is_less (by_bytes p low)) && is_less (by_bytes p high)

unfoldable pub selects : Selection → (low high : List ℕ) → Stored → Bool
selects s low high x =
    selects_path s.paths low high (path_key x.entry.path) &&
    (area_subspace s.own x.entry.subspace && (subspaces_include s.subspaces x.entry.subspace && times_include s.times x.entry.rank.timestamp))

-- And the flags let it through.
unfoldable pub selects_listed : Selection → (low high : List ℕ) → Stored → Bool
selects_listed s low high x = selects s low high x && let_through s.ignore x
