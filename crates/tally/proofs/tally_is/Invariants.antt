-- `tally_is` meets its contract: what is left to compare decides. Assumes nothing.
use Prim.Native.Nat.{◌+◌, ◌-◌, ◌*◌, ◌≤◌}
use lib.ListN.{length}
use Rattle.tally.specs.Tally.{item_length}
use Rattle.tally.proofs.TallyBytes.{TallyCompared}
use Rattle.tally.proofs.tally_is.Given as goal

abbrev pub invariant-loop-k : goal.invariant-loop-k
invariant-loop-k l = (l.k ≤ l.tree.count) × (l.at + item_length * (l.tree.count - l.k) ≤ length l.tally) × TallyCompared l.tree.count l.tree.dir.now l.tree.bytes.now l.tally l.k l.at

abbrev pub decreases-loop-k : goal.decreases-loop-k
decreases-loop-k l = l.tree.count - l.k
