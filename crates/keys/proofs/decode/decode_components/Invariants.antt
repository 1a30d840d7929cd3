-- `decode_components` meets its contract. The invariant: the components read so far, in front of what reading on gives. Assumes nothing.
use Rattle.keys.proofs.Walking.{Walking}
use Rattle.keys.proofs.decode.decode_components.Given as goal

abbrev pub invariant-loop-n : goal.invariant-loop-n
invariant-loop-n l = Walking l.mcl l.k l.initial.bytes l.initial.ends l.bytes l.ends l.at l.total l.n
