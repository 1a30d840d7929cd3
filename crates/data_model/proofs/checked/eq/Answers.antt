-- `eq` meets its contract. Assumes nothing.
use mathlib.Core.Path.{ap, ◌∙◌}
use Rattle.laws.specs.Order.{is_same}
use Rattle.data_model.proofs.Derived.{tested_same}
use Rattle.data_model.proofs.Orders.{same-path}
use Rattle.data_model.proofs.checked.eq.Goals as goal

pub returns : goal.returns
returns c = c.eq.ensures ∙ tested_same c.cmp.result ∙ ap is_same c.cmp.ensures ∙ same-path _ _
