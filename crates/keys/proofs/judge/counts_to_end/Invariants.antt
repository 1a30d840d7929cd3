-- `counts_to_end` meets its contract. Assumes nothing.
use Rattle.keys.proofs.Counting.{Fronting}
use Rattle.keys.proofs.judge.counts_to_end.Given as goal

abbrev pub invariant-loop-j : goal.invariant-loop-j
invariant-loop-j l = Fronting l.w l.at l.k l.j l.ok l.n
