-- `within_by` meets its contract. The invariant: what is within is so exactly if what is left is. Assumes nothing.
use native.Mathlib.Omega.{arith}
use lib.ListN.{length-set}
use Rattle.laws.proofs.Truth.{not-true, not-false}
use Rattle.tree.proofs.WithinLaws.{within-turn, within-stop, within_end}
use Rattle.tree.proofs.FormedLaws.{formed-readable}
use Rattle.tree.proofs.stored.Tree.within_by.Goals as goal

pub time_at-requires : goal.time_at-requires
time_at-requires c = formed-readable c.requires.0 _ (omega arith)

pub returns-then-not-stands_near : goal.returns-then-not-stands_near
returns-then-not-stands_near c = within-stop c.requires.0 c.args.namespace _ c.loop-k.k c.loop-k.invariant.1 (omega arith) c.stands_near.result c.stands_near.ensures (not-true _ c.if-not-stands_near.true-raw)

pub loop-k-preserved : goal.loop-k-preserved
loop-k-preserved c = (simp length-set (omega (arith, c.loop-k.invariant.0)), within-turn c.requires.0 c.args.namespace _ c.loop-k.k c.loop-k.invariant.1 (omega arith) c.stands_near.result c.stands_near.ensures (not-false _ c.if-not-stands_near.false-raw))

pub returns : goal.returns
returns c = within_end c.requires.0 c.args.namespace _ c.loop-k.k c.loop-k.invariant.1 (omega arith)
