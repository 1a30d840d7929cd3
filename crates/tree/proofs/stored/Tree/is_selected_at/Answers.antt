-- `is_selected_at` meets its contract, a test at a time. Assumes nothing.
use mathlib.Core.Path.{◌∙◌}
use Rattle.data_model.proofs.Derived.{times_included}
use Rattle.tree.proofs.SelectionLaws.{record-elsewhere, record-other, record-times}
use Rattle.tree.proofs.stored.Tree.is_selected_at.Goals as goal

pub returns-then-not-in_paths : goal.returns-then-not-in_paths
returns-then-not-in_paths c = record-elsewhere _ _ _ _ _ _ c.path_at.ensures _ c.in_paths.ensures c.if-not-in_paths.true-raw

pub returns-then-includes_subspace : goal.returns-then-includes_subspace
returns-then-includes_subspace c =
    record-times _ _ _ _ _ _ c.path_at.ensures _ c.in_paths.ensures c.if-not-in_paths.false-raw
    _ c.subspace_at.ensures _ c.includes_subspace.ensures c.if-includes_subspace.true
    _ c.time_at.ensures _ (c.includes.ensures ∙ times_included _ _)

pub returns-else-includes_subspace : goal.returns-else-includes_subspace
returns-else-includes_subspace c =
    record-other _ _ _ _ _ _ c.path_at.ensures _ c.in_paths.ensures c.if-not-in_paths.false-raw
    _ c.subspace_at.ensures _ c.includes_subspace.ensures c.if-includes_subspace.false
