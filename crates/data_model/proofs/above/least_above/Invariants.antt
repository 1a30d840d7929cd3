-- `least_above` meets its contract: no component from i on can be replaced. Assumes nothing.
use mathlib.Core.Path.{◌≡◌}
use mathlib.Core.Option.{none}
use Rattle.data_model.specs.Path.{field, components}
use Rattle.data_model.proofs.Raise.{above_from}
use Rattle.data_model.proofs.above.least_above.Given as goal

abbrev pub invariant-loop-i : goal.invariant-loop-i
invariant-loop-i l = above_from field (components l.p) l.i ≡ none
