-- `write_pairs` meets its contract. Assumes nothing.
use native.Mathlib.Omega.{arith}
use Rattle.layout.proofs.PairLaws.{marking-fits, marking-one, marking-none, marking-count, marking-all}
use Rattle.layout.proofs.marks.write_pairs.Goals as goal
use Rattle.layout.proofs.marks.write_pairs.Goals.{then-mark-eq1, else-mark-eq1}

pub loop-k-preserved : goal.loop-k-preserved
loop-k-preserved c =
    let v = c.loop-k.invariant.1 in
    elim c.if-mark-eq1.branch [
      | then-mark-eq1 w ↦
          let f = marking-fits v (omega arith) (omega arith) w.if-mark-eq1.true in (
            omega arith,
            rw (w.out-is, w.n-is) (marking-one v (omega arith) (omega arith) w.offset.result w.size.result _ w.if-mark-eq1.true (omega arith) w.offset.ensures.0 w.size.ensures.0 w.put_pair.ensures),
          )
      | else-mark-eq1 w ↦ (omega arith, rw (w.out-is, w.n-is) (marking-none v (omega arith) (omega arith) w.if-mark-eq1.false))
    ]

pub returns : goal.returns
returns c =
    let v = c.loop-k.invariant.1 in
    (marking-count v (omega arith), marking-all v (omega arith))
