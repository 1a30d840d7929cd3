-- `count_on` meets its contract. Assumes nothing.
use Rattle.keys.proofs.Counting.{kept-all, kept-none}
use Rattle.keys.proofs.judge.count_on.Goals as goal

pub returns-then-ends-eq0 : goal.returns-then-ends-eq0
returns-then-ends-eq0 c = kept-all _ _ c.if-ends-eq0.true

pub returns-else-ends-eq0 : goal.returns-else-ends-eq0
returns-else-ends-eq0 c = kept-none _ _ c.if-ends-eq0.false
