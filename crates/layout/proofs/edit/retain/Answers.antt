-- `retain` meets its contract. Assumes nothing.
use mathlib.Core.Path.{◌≡◌, ◌∙◌}
use native.Mathlib.Omega.{arith}
use Rattle.layout.proofs.RetainLaws.{pass-start, pass-fewer, pass-room, pass-out, pass-in, pass-count, pass-tree, pass-dir}
use Rattle.layout.proofs.BufferLaws.{cleared-is}
use Rattle.layout.proofs.LaidLaws.{laid}
use Rattle.layout.proofs.edit.retain.Goals as goal
use Rattle.layout.proofs.edit.retain.Goals.{then-marks-i-ne1, else-marks-i-ne1}

pub loop-i-init : goal.loop-i-init
loop-i-init c = pass-start c.args.marks.now c.requires.1 (laid _ _ _ c.requires.0.laid)

pub shift_down-requires : goal.shift_down-requires
shift_down-requires c =
    let r = pass-room c.loop-i.invariant (omega arith) c.size-l.result c.size-l.ensures.0 in
    (omega arith, r)

pub loop-i-preserved : goal.loop-i-preserved
loop-i-preserved c =
    let v = c.loop-i.invariant in
    elim c.if-marks-i-ne1.branch [
      | then-marks-i-ne1 w ↦ rw (w.dir-is, w.tree-is, w.n-is, w.to-is) (pass-in v (omega arith) c.size-l.result c.size-l.ensures.0 w.if-marks-i-ne1.true _ _ w.put_pair.ensures w.shift_down.ensures)
      | else-marks-i-ne1 w ↦ rw (w.dir-is, w.tree-is, w.n-is, w.to-is) (pass-out v (omega arith) c.size-l.result c.size-l.ensures.0 w.if-marks-i-ne1.false)
    ]

pub returns : goal.returns
returns c =
    let e : c.loop-i.i ≡ c.args.count = omega arith in
    record {
      left = pass-count c.loop-i.invariant e;
      bytes = c.clear.ensures ∙ pass-tree c.loop-i.invariant e;
      numbers = cleared-is _ _ c.loop-i.dir _ (omega (arith, pass-fewer c.loop-i.invariant)) (omega arith) (c.fill.ensures.after λ y e. e) ∙ pass-dir c.loop-i.invariant e;
    }
