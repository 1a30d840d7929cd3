-- `write_tally` meets its contract: what is written, and what is left to write. Assumes nothing.
use Prim.Native.Nat.{◌+◌, ◌-◌}
use mathlib.Core.Path.{refl, ◌∙◌}
use mathlib.Core.List.{[]}
use native.Mathlib.Omega.{arith}
use lib.ListN.{length}
use borrow.Rule.Slice.PartMut.{put_mid}
use Rattle.laws.proofs.Lists.{wrote_none}
use Rattle.layout.proofs.BufferLaws.{cleared-is}
use Rattle.tally.specs.Tally.{item_length}
use Rattle.tally.proofs.TallyBytes.{TallyWrote, item-turn, tally-wrote}
use Rattle.tally.proofs.write_tally.Goals as goal

pub loop-k-init : goal.loop-k-init
loop-k-init c = (omega arith, omega (arith, c.requires.1), refl, λ ns. wrote_none _ _)

pub loop-k-preserved : goal.loop-k-preserved
loop-k-preserved c =
    let l = c.loop-k in
    let i = c.item_at-item in
    let w = c.write_item in
    let n : TallyWrote c.args.tree.count c.args.tree.dir.now c.args.tree.bytes.now c.args.tally.now (put_mid l.at (length l.tally - l.at) l.tally w.new.out) (l.k + i.result.count) (l.at + item_length)
    = λ ns. item-turn _ c.args.tally.now l.tally w.new.out i.result _ _ l.at (i.ensures.2 ns) (l.invariant.3 ns) (omega (arith, l.invariant.1)) w.ensures in
    (omega (arith, i.ensures.1), omega (arith, l.invariant.1, l.invariant.2, (n []).size, i.ensures.0, i.ensures.1), (n []).size, n)

pub returns : goal.returns
returns c =
    λ ns.
    let l = c.loop-k in
    cleared-is l.at (length l.tally) l.tally c.fill.new.self (omega (arith, l.invariant.1, l.invariant.2)) (omega arith) (c.fill.ensures.after λ y e. e)
    ∙ tally-wrote c.requires.0.formed l.k l.at (omega arith) c.args.tally.now l.tally (length l.tally) l.invariant.3 refl ns
