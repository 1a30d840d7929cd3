-- `counts_of` meets its contract. Assumes nothing.
use native.Mathlib.Omega.{arith}
use Rattle.std.proofs.Common.{rules}
use Rattle.keys.proofs.Counting.{counting-turn}
use Rattle.keys.proofs.judge.counts_of.Goals as goal

pub loop-j-preserved : goal.loop-j-preserved
loop-j-preserved c = let l = c.loop-j in counting-turn _ _ _ l.j l.ok l.n l.e l.invariant _ _ (omega arith) (search rules) (search rules)
