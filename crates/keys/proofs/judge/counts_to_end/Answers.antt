-- `counts_to_end` meets its contract. Assumes nothing.
use native.Mathlib.Omega.{arith}
use Rattle.keys.proofs.Counting.{front-other, front-escaped}
use Rattle.keys.proofs.judge.counts_to_end.Goals as goal
use Rattle.keys.proofs.judge.counts_to_end.Goals.{then-k-at-ne0, else-k-at-ne0+else-k-at}

pub loop-j-preserved : goal.loop-j-preserved
loop-j-preserved c =
    let l = c.loop-j in
    elim c.if-k-at-ne0.branch [
      | then-k-at-ne0 w ↦ rw (w.ok-is, w.n-is) (front-other _ _ _ l.j l.ok l.n l.invariant (omega arith) w.if-k-at-ne0.true)
      | else-k-at-ne0+else-k-at w ↦ rw (w.ok-is, w.n-is) (front-escaped _ _ _ l.j l.ok l.n l.invariant (omega arith) w.if-k-at-ne0.false w.if-k-at.false)
    ]
