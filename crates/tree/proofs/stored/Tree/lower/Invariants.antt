-- `lower` meets its contract: the place is between `lo` and `hi`. Assumes nothing.
use Prim.Native.Nat.{◌-◌, ◌≤◌}
use Rattle.layout.specs.Layout.{records}
use Rattle.tree.proofs.SearchLaws.{Bracket}
use Rattle.tree.proofs.stored.Tree.lower.Given as goal

abbrev pub invariant-loop-lo : goal.invariant-loop-lo
invariant-loop-lo l = (l.hi ≤ l.self.count) × Bracket l.key (records l.self.count l.self.dir.now l.self.bytes.now) l.lo l.hi

abbrev pub decreases-loop-lo : goal.decreases-loop-lo
decreases-loop-lo l = l.hi - l.lo
