-- `read_component` meets its contract. The invariant: what was read so far, in front of what reading on gives. Assumes nothing.
use Prim.Native.Nat.{◌-◌}
use lib.ListN.{length}
use Rattle.keys.proofs.Reading.{Reading}
use Rattle.keys.proofs.decode.read_component.Given as goal

abbrev pub invariant-loop-b : goal.invariant-loop-b
invariant-loop-b l = Reading l.lim l.k l.initial.bytes l.bytes l.at l.n

abbrev pub decreases-loop-b : goal.decreases-loop-b
decreases-loop-b l = length l.k - l.at
