-- `retain` meets its contract. Assumes nothing.
use Prim.Native.Nat.{◌-◌}
use Rattle.layout.proofs.RetainLaws.{Pass}
use Rattle.layout.proofs.edit.retain.Given as goal

abbrev pub invariant-loop-i : goal.invariant-loop-i
invariant-loop-i l = Pass l.count l.marks l.initial.dir l.initial.tree l.dir l.tree l.i l.n l.from l.to

abbrev pub decreases-loop-i : goal.decreases-loop-i
decreases-loop-i l = l.count - l.i
