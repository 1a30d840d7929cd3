-- `lower` meets its contract: the place is between `lo` and `hi`. Assumes nothing.
use Prim.Native.Nat.{◌+◌, ◌-◌, ◌/◌}
use native.Mathlib.Omega.{arith}
use Rattle.layout.specs.Layout.{records}
use Rattle.tree.proofs.SearchLaws.{bracket-end, search-start, search-up, search-down}
use Rattle.tree.proofs.stored.Tree.lower.Goals as goal

pub loop-lo-init : goal.loop-lo-init
loop-lo-init c = (omega arith, search-start c.requires c.args.key.now)

pub loop-lo-preserved-then-less : goal.loop-lo-preserved-then-less
loop-lo-preserved-then-less c = (
  omega arith,
  search-up c.requires c.args.key.now c.loop-lo.lo c.loop-lo.hi (c.loop-lo.lo + (c.loop-lo.hi - c.loop-lo.lo) / 2) c.loop-lo.invariant.1 (omega arith) (omega arith) _ _ c.key_at.ensures c.less.ensures c.if-less.true,
)

pub loop-lo-preserved : goal.loop-lo-preserved
loop-lo-preserved c = (
  omega arith,
  search-down c.requires c.args.key.now c.loop-lo.lo c.loop-lo.hi (c.loop-lo.lo + (c.loop-lo.hi - c.loop-lo.lo) / 2) c.loop-lo.invariant.1 (omega arith) (omega arith) _ _ c.key_at.ensures c.less.ensures c.if-less.false,
)

pub returns : goal.returns
returns c = bracket-end c.args.key.now (records c.args.self.count c.args.self.dir.now c.args.self.bytes.now) c.loop-lo.lo c.loop-lo.hi c.loop-lo.invariant.1 (omega arith)
