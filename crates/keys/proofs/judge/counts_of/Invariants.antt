-- `counts_of` meets its contract. Assumes nothing.
use Rattle.keys.proofs.Counting.{Counting}
use Rattle.keys.proofs.judge.counts_of.Given as goal

abbrev pub invariant-loop-j : goal.invariant-loop-j
invariant-loop-j l = Counting l.w l.at l.k l.j l.ok l.n l.e
