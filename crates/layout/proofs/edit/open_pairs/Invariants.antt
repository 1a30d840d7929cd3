-- `open_pairs` meets its contract. Assumes nothing.
use Prim.Native.Nat.{◌-◌}
use Rattle.layout.proofs.InsertLaws.{Opening}
use Rattle.layout.proofs.edit.open_pairs.Given as goal

abbrev pub invariant-loop-k : goal.invariant-loop-k
invariant-loop-k l = Opening l.count l.at l.o l.l l.initial.dir l.dir l.k l.pos l.len

abbrev pub decreases-loop-k : goal.decreases-loop-k
decreases-loop-k l = l.count - l.k
