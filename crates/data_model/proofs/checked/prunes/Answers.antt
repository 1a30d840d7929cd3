-- `prunes` meets its contract. Assumes nothing.
use mathlib.Core.Path.{sym, ap, ◌∙◌}
use Rattle.laws.specs.Order.{is_greater}
use Rattle.data_model.proofs.Derived.{newer_found}
use Rattle.data_model.specs.Entry.{prunes, newer, entry_of}
use Rattle.data_model.proofs.checked.prunes.Goals as goal

pub returns-then-covers : goal.returns-then-covers
unfolding prunes newer entry_of is_greater
returns-then-covers c = rw (sym c.covers.ensures ∙ c.if-covers.true) (c.eq.ensures ∙ newer_found c.compare.result ∙ ap is_greater (c.compare.ensures ∙ rw (c.rank.ensures, c.rank-then-covers.ensures)))

pub returns-else-covers : goal.returns-else-covers
unfolding prunes
returns-else-covers c = rw (sym c.covers.ensures ∙ c.if-covers.false) c.if-covers.false
