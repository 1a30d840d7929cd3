-- `tally_is` meets its contract: what is left to compare decides. Assumes nothing.
use Prim.Native.Nat.{◌+◌, ◌-◌}
use mathlib.Core.Path.{refl, sym, ◌∙◌}
use native.Mathlib.Omega.{arith}
use lib.ListN.{replicate, take, drop}
use Rattle.layout.proofs.CompareLaws.{same-is}
use Rattle.tally.specs.Tally.{item_length}
use Rattle.tally.proofs.TallyBytes.{compared-none, item-differs, item-agrees, tally-compared}
use Rattle.tally.proofs.tally_is.Goals as goal

pub loop-k-init : goal.loop-k-init
loop-k-init c = (omega arith, omega (arith, c.requires.1), compared-none c.args.tree.count c.args.tree.dir.now c.args.tree.bytes.now c.args.tally.now)

pub returns-then-ne : goal.returns-then-ne
returns-then-ne c =
    λ ns.
    let l = c.loop-k in
    let i = c.item_at-item in
    let w = c.write_item in
    let t = same-is (take (l.at + item_length - l.at) (drop l.at c.args.tally.now)) w.new.out in
    item-differs c.args.tally.now w.new.out (replicate 28 0) l.at (l.at + item_length - l.at) i.result _ _ (i.ensures.2 ns) (omega (arith, l.invariant.1)) (omega arith) refl w.ensures _ t (sym c.ne.ensures ∙ c.if-ne.true) ∙ sym (l.invariant.2 ns)

pub loop-k-preserved : goal.loop-k-preserved
loop-k-preserved c =
    let l = c.loop-k in
    let i = c.item_at-item in
    let w = c.write_item in
    let t = same-is (take (l.at + item_length - l.at) (drop l.at c.args.tally.now)) w.new.out in (
      omega (arith, i.ensures.1),
      omega (arith, l.invariant.1, i.ensures.0, i.ensures.1),
      λ ns. l.invariant.2 ns ∙ item-agrees c.args.tally.now w.new.out (replicate 28 0) l.at (l.at + item_length - l.at) i.result _ _ (i.ensures.2 ns) (omega (arith, l.invariant.1)) (omega arith) refl w.ensures _ t (sym c.ne.ensures ∙ c.if-ne.false),
    )

pub returns : goal.returns
returns c = tally-compared c.requires.0.formed c.loop-k.k c.loop-k.at (omega arith) c.args.tally.now c.zeros.result c.loop-k.invariant.2 c.zeros.ensures
