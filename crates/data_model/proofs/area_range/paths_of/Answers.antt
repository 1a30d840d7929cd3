-- `paths_of` meets its contract. Assumes nothing.
use mathlib.Core.Path.{sym, ◌∙◌}
use Rattle.data_model.proofs.RangeLaws.{paths_made}
use Rattle.data_model.proofs.area_range.paths_of.Goals as goal

pub returns-in-Some : goal.returns-in-Some
returns-in-Some c = paths_made _ _ _ _ c.canonical.ensures (sym c.in-Some.is ∙ c.least_above.ensures)

pub returns-in-None : goal.returns-in-None
returns-in-None c = paths_made _ _ _ _ c.canonical.ensures (sym c.in-None.is ∙ c.least_above.ensures)
