-- `in_numbers` meets its contract: after k turns the numbers of k pairs stand at the front of its array of zeros. Assumes nothing.
use Prim.Native.Nat.{ℕ}
use mathlib.Core.Path.{◌≡◌, refl}
use native.Mathlib.Omega.{arith}
use lib.ListN.{length, replicate, length-set, length-replicate}
use Rattle.laws.specs.Lists.{put}
use borrow.Author.Rules.{rules}
use Rattle.pairs.specs.Pairs.{pair, numbers_of}
use Rattle.pairs.proofs.PairLaws.{numbers-turn, numbers-all}
use Rattle.pairs.proofs.in_numbers.Goals as goal

pub loop-k-init : goal.loop-k-init
unfolding put numbers_of
loop-k-init c = (omega arith, refl, refl)

pub loop-k-preserved : goal.loop-k-preserved
loop-k-preserved c =
    let l = c.loop-k in
    let n : length c.args.pairs ≡ 1024 = search rules in
    (omega arith, simp (length-set) l.invariant.1, numbers-turn c.args.pairs (replicate 2048 0) l.numbers l.k l.invariant.2 (omega (arith, length-replicate {A = ℕ} 2048 0)) (pair 0 0) (omega arith))

pub returns : goal.returns
returns c =
    let l = c.loop-k in
    let n : length c.args.pairs ≡ 1024 = search rules in
    (refl, numbers-all c.args.pairs (replicate 2048 0) l.numbers l.k l.invariant.2 (omega (arith, length-replicate {A = ℕ} 2048 0)) (omega arith))
