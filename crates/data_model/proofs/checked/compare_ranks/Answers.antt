-- `compare_ranks` meets its contract. Assumes nothing.
use mathlib.Core.Path.{ap, ◌∙◌}
use Rattle.data_model.specs.Refusal.{ordering_says}
use Rattle.data_model.proofs.Derived.{rank_tuple_order}
use Rattle.data_model.proofs.checked.compare_ranks.Goals as goal

pub returns : goal.returns
returns c = c.from.ensures ∙ ap ordering_says c.cmp.ensures ∙ rank_tuple_order _ _
