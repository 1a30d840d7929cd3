-- `is_other` meets its contract. Assumes nothing.
use mathlib.Core.Path.{ap, ◌∙◌}
use mathlib.Core.Bool.{not}
use Rattle.layout.proofs.CompareLaws.{same-is}
use Rattle.available.proofs.is_other.Goals as goal

pub returns-in-Some : goal.returns-in-Some
returns-in-Some c = rw c.in-Some.is (c.ne.ensures ∙ ap not (same-is c.args.own c.in-Some.digest))
