-- A 3d range: of subspaces, of paths and of times.
use Rattle.std.specs.Prelude.{ℕ, Bool, ◌&&◌}
use Rattle.data_model.specs.Path.{Components}
use Rattle.data_model.specs.Range.{times_include, subspaces_include, paths_include}
use Rattle.data_model.specs.declared.parameters.Subspace.{Subspace}
use Rattle.data_model.specs.declared.range_3d.Range3d.{Range3d}

unfoldable pub range_includes : Range3d → Subspace → Components → ℕ → Bool
range_includes r s p t = subspaces_include r.subspaces s && (paths_include r.paths p && times_include r.times t)
