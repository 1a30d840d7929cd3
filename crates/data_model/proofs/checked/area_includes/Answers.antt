-- `area_includes` meets its contract. Assumes nothing.
use mathlib.Core.Path.{sym, ◌∙◌}
use Rattle.laws.proofs.Truth.{clash}
use Rattle.data_model.specs.Area.{area_includes}
use Rattle.data_model.proofs.Derived.{times_included}
use Rattle.data_model.proofs.RangeLaws.{not_first, not_last, by_middle}
use Rattle.data_model.proofs.checked.area_includes.Goals as goal
use Rattle.data_model.proofs.checked.area_includes.Goals.{then-includes, else-includes}

pub returns-then-includes-2 : goal.returns-then-includes-2
unfolding area_includes
returns-then-includes-2 c =
    elim c.if-includes.branch [
      | then-includes w ↦ c.is_prefix_of.ensures ∙ by_middle _ _ _ (sym c.includes.ensures ∙ w.if-includes.true) (sym (w.includes-then-includes.ensures ∙ times_included _ _) ∙ sym w.value-is ∙ c.if-includes-2.true)
      | else-includes w ↦ clash c.if-includes-2.true (w.value-is ∙ w.if-includes.false)
    ]

pub returns-else-includes-2 : goal.returns-else-includes-2
unfolding area_includes
returns-else-includes-2 c =
    c.if-includes-2.false
    ∙ elim c.if-includes.branch [
      | then-includes w ↦ not_last _ _ _ (sym (w.includes-then-includes.ensures ∙ times_included _ _) ∙ sym w.value-is ∙ c.if-includes-2.false)
      | else-includes w ↦ not_first _ _ (sym c.includes.ensures ∙ w.if-includes.false)
    ]
