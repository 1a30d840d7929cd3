-- `mark_all` meets its contract. Assumes nothing.
use native.Mathlib.Omega.{arith}
use lib.ListN.{length-set}
use Rattle.tree.proofs.MarkingLaws.{mark-next, mark-end}
use Rattle.tree.proofs.stored.Tree.mark_all.Goals as goal

pub loop-k-preserved : goal.loop-k-preserved
loop-k-preserved g c = (
  simp length-set c.loop-k.invariant.0,
  λ p ns h. mark-next c.requires.0 ns _ _ _ _ (omega arith) (omega (arith, c.requires.1)) _ (h _ _ (omega arith) c.test.ensures) (c.loop-k.invariant.1 p ns h),
)

pub returns : goal.returns
returns g c = λ p ns h. mark-end c.requires.0 ns _ _ _ _ (omega arith) (c.loop-k.invariant.1 p ns h)
