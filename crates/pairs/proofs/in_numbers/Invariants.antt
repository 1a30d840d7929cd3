-- `in_numbers` meets its contract: after k turns the numbers of k pairs stand at the front of its array of zeros. Assumes nothing.
use Prim.Native.Nat.{◌-◌, ◌≤◌}
use mathlib.Core.Path.{◌≡◌}
use lib.ListN.{length, take, replicate}
use Rattle.laws.specs.Lists.{put}
use Rattle.pairs.specs.Pairs.{numbers_of}
use Rattle.pairs.proofs.in_numbers.Given as goal

abbrev pub invariant-loop-k : goal.invariant-loop-k
invariant-loop-k l = (l.k ≤ 1024) × (length l.numbers ≡ 2048) × (l.numbers ≡ put (numbers_of (take l.k l.pairs)) (replicate 2048 0))
