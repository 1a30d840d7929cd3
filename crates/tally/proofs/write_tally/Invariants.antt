-- `write_tally` meets its contract: what is written, and what is left to write. Assumes nothing.
use Prim.Native.Nat.{◌+◌, ◌-◌, ◌*◌, ◌≤◌}
use mathlib.Core.Path.{◌≡◌}
use lib.ListN.{length}
use Rattle.tally.specs.Tally.{item_length}
use Rattle.tally.proofs.TallyBytes.{TallyWrote}
use Rattle.tally.proofs.write_tally.Given as goal

abbrev pub invariant-loop-k : goal.invariant-loop-k
invariant-loop-k l = (l.k ≤ l.tree.count) × (l.at + item_length * (l.tree.count - l.k) ≤ length l.tally) × (length l.tally ≡ length l.initial.tally) × TallyWrote l.tree.count l.tree.dir.now l.tree.bytes.now l.initial.tally l.tally l.k l.at

abbrev pub decreases-loop-k : goal.decreases-loop-k
decreases-loop-k l = l.tree.count - l.k
