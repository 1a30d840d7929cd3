-- `legal_ends` meets its contract: what is left of the ends is as legal as the whole. Assumes nothing.
use mathlib.Core.Path.{sym, ◌∙◌}
use native.Mathlib.Omega.{arith}
use Rattle.data_model.proofs.Values.{ends_low, ends-long, ends-step, ends-done}
use Rattle.data_model.proofs.path.legal_ends.Goals as goal
use Rattle.data_model.proofs.path.legal_ends.Goals.{then-end-from-via-then-end-from, then-end-from-via-else-end-from+then-mcl-end}

pub returns-then-end-from : goal.returns-then-end-from
returns-then-end-from c =
    let a = c.args in
    let l = c.loop-end in
    sym (l.invariant ∙ elim c.then-end-from.branch [
      | then-end-from-via-then-end-from w ↦ ends_low a.mcl a.mpl l.from l.end-index a.ends.now (omega arith) w.if-end-from.true
      | then-end-from-via-else-end-from+then-mcl-end w ↦ ends-long a.mcl a.mpl l.from l.end-index a.ends.now (omega arith) w.if-end-from.false w.if-mcl-end.true
    ])

pub loop-end-preserved : goal.loop-end-preserved
loop-end-preserved c =
    let a = c.args in
    let l = c.loop-end in
    l.invariant ∙ ends-step a.mcl a.mpl l.from l.end-index a.ends.now (omega arith) c.if-end-from.false c.if-mcl-end.false

pub returns : goal.returns
returns c =
    let a = c.args in
    let l = c.loop-end in
    sym (l.invariant ∙ ends-done a.mcl a.mpl l.from l.end-index a.ends.now (omega arith))
