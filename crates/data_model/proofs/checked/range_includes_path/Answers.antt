-- `range_includes_path` meets its contract. Assumes nothing.
use mathlib.Core.Path.{sym, ap, ◌∙◌}
use Rattle.laws.specs.Order.{is_less}
use Rattle.data_model.specs.Range.{paths_end, paths_include}
use Rattle.data_model.proofs.Derived.{tested_less, not_less, is_less_found}
use Rattle.data_model.proofs.RangeLaws.{includes-not, includes-open, includes-closed, range_start, range_end}
use Rattle.data_model.proofs.checked.range_includes_path.Goals as goal

pub cmp-requires : goal.cmp-requires
cmp-requires c = (c.requires.1, range_start _ c.requires.0)

pub cmp-requires-in-Closed : goal.cmp-requires-in-Closed
cmp-requires-in-Closed c = (c.requires.1, range_end _ _ c.requires.0 c.in-Closed.is)

pub returns-in-Closed : goal.returns-in-Closed
unfolding paths_include paths_end
returns-in-Closed c =
    includes-closed _ _ _ _ _ _ (sym (ap is_less c.cmp.ensures) ∙ not_less c.cmp.result (sym c.ne.ensures ∙ c.if-ne.true)) (ap paths_end c.in-Closed.is)
    (c.eq.ensures ∙ tested_less c.cmp-in-Closed.result ∙ ap is_less c.cmp-in-Closed.ensures)

pub returns-in-Open : goal.returns-in-Open
unfolding paths_include paths_end
returns-in-Open c = includes-open _ _ _ _ (sym (ap is_less c.cmp.ensures) ∙ not_less c.cmp.result (sym c.ne.ensures ∙ c.if-ne.true)) (ap paths_end c.in-Open.is)

pub returns-else-ne : goal.returns-else-ne
unfolding paths_include
returns-else-ne c = c.if-ne.false ∙ includes-not _ _ _ _ (sym (ap is_less c.cmp.ensures) ∙ is_less_found c.cmp.result (sym c.ne.ensures ∙ c.if-ne.false))
