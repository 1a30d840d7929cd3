-- `same` meets its contract. Assumes nothing.
use mathlib.Core.Path.{◌∙◌}
use Rattle.layout.proofs.CompareLaws.{same-is}
use Rattle.layout.proofs.bytes.same.Goals as goal

pub returns : goal.returns
returns c = c.eq.ensures ∙ same-is c.args.a.now c.args.b.now
