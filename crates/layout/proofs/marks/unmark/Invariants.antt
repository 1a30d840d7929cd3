-- `unmark` meets its contract. Assumes nothing.
use Prim.Native.Nat.{◌≤◌, ◌-◌}
use lib.ListN.{length}
use Rattle.layout.proofs.UnmarkLaws.{Unmarking}
use Rattle.layout.proofs.marks.unmark.Given as goal

abbrev pub invariant-loop-k : goal.invariant-loop-k
invariant-loop-k l = (l.k ≤ length l.other) × Unmarking l.initial.marks l.other l.marks l.k

abbrev pub decreases-loop-k : goal.decreases-loop-k
decreases-loop-k l = length l.other - l.k
