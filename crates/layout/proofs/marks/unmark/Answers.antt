-- `unmark` meets its contract. Assumes nothing.
use native.Mathlib.Omega.{arith}
use Rattle.layout.proofs.UnmarkLaws.{unmarking-one, unmarking-none, unmarking-end}
use Rattle.layout.proofs.marks.unmark.Goals as goal
use Rattle.layout.proofs.marks.unmark.Goals.{then-taken-eq1, else-taken-eq1}

pub loop-k-preserved : goal.loop-k-preserved
loop-k-preserved c =
    let v = c.loop-k.invariant.1 in
    let h = v.long in
    elim c.if-taken-eq1.branch [
      | then-taken-eq1 w ↦ (omega arith, rw w.marks-is (unmarking-one _ _ _ _ v (omega arith) (omega arith) w.if-taken-eq1.true))
      | else-taken-eq1 w ↦ (omega arith, rw w.marks-is (unmarking-none _ _ _ _ v (omega arith) (omega arith) w.if-taken-eq1.false))
    ]

pub returns : goal.returns
returns c = unmarking-end _ _ _ _ c.loop-k.invariant.1 (omega arith)
