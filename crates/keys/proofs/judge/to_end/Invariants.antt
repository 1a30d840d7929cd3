-- `to_end` meets its contract. Assumes nothing.
use mathlib.Core.Path.{◌≡◌}
use Rattle.keys.specs.Judge.{endings}
use Rattle.keys.proofs.judge.to_end.Given as goal

abbrev pub invariant-loop-j : goal.invariant-loop-j
invariant-loop-j l = endings l.j l.at l.k ≡ 0
