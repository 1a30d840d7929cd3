-- `item_at` meets its contract: the run up to `end` stands in front of what is left. Assumes nothing.
use Prim.Native.Nat.{◌≤◌, ◌<◌}
use mathlib.Core.Path.{◌≡◌}
use Rattle.tally.proofs.RunLaws.{Runs}
use Rattle.tally.proofs.item.item_at.Given as goal

abbrev pub invariant-loop-end : goal.invariant-loop-end
invariant-loop-end l = (l.k < l.end) × (l.end ≤ l.tree.count) × Runs l.tree.count l.tree.dir.now l.tree.bytes.now l.subspace l.k l.end l.newest × (l.end-end ≡ l.tree.count)
