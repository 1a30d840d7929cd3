-- `add_size` meets its contract. Assumes nothing.
use native.Mathlib.Omega.{arith}
use Rattle.tree.proofs.InterestLaws.{adds_none, adds-size, fits-size}
use Rattle.tree.proofs.interest.add_size.Goals as goal

pub returns-then-max_size-eq-NO_LIMIT : goal.returns-then-max_size-eq-NO_LIMIT
returns-then-max_size-eq-NO_LIMIT c = adds_none _ _ _ c.if-max_size-eq-NO_LIMIT.true

pub overflow_add-result : goal.overflow_add-result
overflow_add-result c = omega (arith, fits-size c.args.max_size c.args.size c.args.length c.if-max_size-eq-NO_LIMIT.false c.requires)

pub returns-else-max_size-eq-NO_LIMIT : goal.returns-else-max_size-eq-NO_LIMIT
returns-else-max_size-eq-NO_LIMIT c = adds-size _ _ _ c.if-max_size-eq-NO_LIMIT.false
