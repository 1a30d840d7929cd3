-- An area: what it includes, and its 3d range.
use Rattle.std.specs.Prelude.{ℕ, [], Bool, true, ◌&&◌}
use Rattle.std.proofs.Math.Option.{Option, some, none}
use Rattle.data_model.specs.Path.{Figures, Components, components, is_prefix, legal, path_of}
use Rattle.data_model.specs.Above.{above}
use Rattle.data_model.specs.Subspace.{first_subspace, same_subspace, next_subspace}
use Rattle.data_model.specs.Range.{times_include}
use Rattle.data_model.specs.Said.{Said}
use Rattle.data_model.specs.Refusal.{answered}
use Rattle.data_model.specs.declared.path.Path.{Path}
use Rattle.data_model.specs.declared.parameters.Subspace.{Subspace}
use Rattle.data_model.specs.declared.range.RangeEnd.TheVariants.{Closed, Open}
use Rattle.data_model.specs.declared.range.Range.{Range}
use Rattle.data_model.specs.declared.range_3d.Range3d.{Range3d}
use Rattle.data_model.specs.declared.area.AreaSubspace.{AreaSubspace}
use Rattle.data_model.specs.declared.area.AreaSubspace.TheVariants.{Any, Id}
use Rattle.data_model.specs.declared.area.Area.{Area}

-- Every subspace, or the one.
unfoldable pub area_subspace : AreaSubspace → Subspace → Bool
area_subspace Any s = true
area_subspace (Id a) s = same_subspace a s

-- The subspace is the area's, the area's path prefixes the path, and its times include the timestamp.
unfoldable pub area_includes : Area → Subspace → Components → ℕ → Bool
area_includes a s p t = area_subspace a.subspace s && (is_prefix (components a.path) p && times_include a.times t)

unfoldable pub subspaces_of : AreaSubspace → Range Subspace
subspaces_of Any = record { start = first_subspace; end = Open }
subspaces_of (Id s) = record { start = s; end = next_subspace s }

-- From the area's path up to the least legal path above it that it does not prefix, or open.
unfoldable pub paths_up_to : Components → Option Components → Range Path
paths_up_to p none = record { start = path_of p; end = Open }
paths_up_to p (some q) = record { start = path_of p; end = Closed (path_of q) }

unfoldable pub area_range : Figures → Area → Range3d
area_range f a = record {
  subspaces = subspaces_of a.subspace;
  paths = paths_up_to (components a.path) (above f (components a.path));
  times = a.times;
}

-- All 0: the range that includes none.
abbrev pub empty_range : Range3d
empty_range = record {
  subspaces = record { start = first_subspace; end = Closed first_subspace };
  paths = record { start = path_of []; end = Closed (path_of []) };
  times = record { start = 0; end = Closed 0 };
}

-- The answer: 4 for an illegal path, else the range.
unfoldable pub area_range_answer : Figures → Area → Said Range3d
area_range_answer f a = answered (legal f a.path) (area_range f a)
