-- `write_pairs` meets its contract: after k turns the first k pairs are those that the numbers spell. Assumes nothing.
use Rattle.std.proofs.Common.{◌-◌, ◌≡◌, ◌≤◌}
use Rattle.pairs.proofs.PairLaws.{pairs_into}
use Rattle.pairs.proofs.write_pairs.Given as goal

abbrev pub invariant-loop-k : goal.invariant-loop-k
invariant-loop-k l = (l.k ≤ l.n) × (l.pairs ≡ pairs_into l.numbers l.initial.pairs l.k)
