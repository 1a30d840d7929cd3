-- `less` meets its contract. Assumes nothing.
use mathlib.Core.Path.{ap, ◌∙◌}
use Rattle.std.specs.Ordering.{is_lt}
use Rattle.layout.proofs.CompareLaws.{less-is}
use Rattle.layout.proofs.bytes.less.Goals as goal

pub returns : goal.returns
returns c = c.is_lt.ensures ∙ ap is_lt c.cmp.ensures ∙ less-is c.args.a.now c.args.b.now
