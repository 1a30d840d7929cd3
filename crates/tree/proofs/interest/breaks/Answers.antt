-- `breaks` meets its contract. Assumes nothing.
use mathlib.Core.Path.{◌∙◌, ap}
use mathlib.Core.Bool.{not}
use native.Mathlib.Omega.{arith}
use borrow.Author.Tests.{eq-eqb, lt-ltb}
use Rattle.tree.specs.Interest.{no_limit}
use Rattle.tree.proofs.InterestLaws.{breaks-none, breaks-more, breaks-rest}
use Rattle.tree.proofs.interest.breaks.Goals as goal

pub returns-then-limit-more : goal.returns-then-limit-more
returns-then-limit-more c = lt-ltb c.args.limit c.args.more c.if-limit-more.true ∙ breaks-more _ c.args.n _ c.if-limit-ne-NO_LIMIT.true c.if-limit-more.true

pub returns-else-limit-more : goal.returns-else-limit-more
returns-else-limit-more c = breaks-rest _ _ _ c.if-limit-ne-NO_LIMIT.true (omega (arith, c.if-limit-more.false))

pub returns-else-limit-ne-NO_LIMIT : goal.returns-else-limit-ne-NO_LIMIT
returns-else-limit-ne-NO_LIMIT c = ap not (eq-eqb c.args.limit no_limit c.if-limit-ne-NO_LIMIT.false) ∙ breaks-none _ _ c.if-limit-ne-NO_LIMIT.false
