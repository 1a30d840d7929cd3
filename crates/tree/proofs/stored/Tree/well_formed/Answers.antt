-- `well_formed` meets its contract: what is left to test says what the whole test says. Assumes nothing.
use mathlib.Core.Path.{◌∙◌, ap}
use mathlib.Core.Bool.{not}
use native.Mathlib.Omega.{arith}
use Rattle.data_model.specs.Path.{field}
use Rattle.tree.proofs.PassLaws.{stands_at, ascends_at, pass-short, pass-start, pass-misplaced, pass-bounds, pass-unordered, pass_on, pass-remains, pass-ends}
use Rattle.tree.proofs.stored.Tree.well_formed.Goals as goal
use Rattle.tree.proofs.stored.Tree.well_formed.Goals.{then-not-lies_at-via-then-not-lies_at, then-not-lies_at-via-else-not-lies_at+then-not-ascends_at}

pub returns-then-self : goal.returns-then-self
returns-then-self c = let a = c.args.self in pass-short a.order field a.count a.dir.now a.bytes.now (omega arith)

pub loop-k-init : goal.loop-k-init
loop-k-init c = let a = c.args.self in pass-start a.order field a.count a.dir.now a.bytes.now (omega arith)

pub ascends_at-requires-clause-in_bounds : goal.ascends_at-requires-clause-in_bounds
unfolding stands_at
ascends_at-requires-clause-in_bounds c =
    let a = c.args.self in
    pass-bounds a.order field a.count a.dir.now a.bytes.now c.loop-k.k c.loop-k.at c.loop-k.invariant (omega arith) _ c.lies_at.ensures c.if-not-lies_at.false-raw

pub returns-then-not-lies_at : goal.returns-then-not-lies_at
unfolding stands_at ascends_at
returns-then-not-lies_at c =
    let a = c.args.self in
    elim c.then-not-lies_at.branch [
      | then-not-lies_at-via-then-not-lies_at w ↦
          pass-misplaced a.order field a.count a.dir.now a.bytes.now c.loop-k.k c.loop-k.at c.loop-k.invariant (omega arith) _ c.lies_at.ensures w.if-not-lies_at.true-raw
      | then-not-lies_at-via-else-not-lies_at+then-not-ascends_at w ↦
          pass-unordered a.order field a.count a.dir.now a.bytes.now c.loop-k.k c.loop-k.at c.loop-k.invariant (omega arith) _ c.lies_at.ensures w.if-not-lies_at.false-raw _ w.ascends_at.ensures w.if-not-ascends_at.true-raw
    ]

pub loop-k-preserved : goal.loop-k-preserved
unfolding stands_at ascends_at
loop-k-preserved c =
    let a = c.args.self in
    pass_on a.order field a.count a.dir.now a.bytes.now c.loop-k.k c.loop-k.at c.loop-k.invariant (omega arith) _ c.lies_at.ensures c.if-not-lies_at.false-raw _ c.ascends_at.ensures c.if-not-ascends_at.false-raw _ c.size-at.ensures.0

pub returns-then-zeros : goal.returns-then-zeros
returns-then-zeros c =
    let a = c.args.self in
    c.zero_numbers.ensures ∙ pass-ends a.order field a.count a.dir.now a.bytes.now c.loop-k.k c.loop-k.at c.loop-k.invariant (omega arith) _ c.zeros.ensures (ap not c.if-zeros.true)

pub returns-else-zeros : goal.returns-else-zeros
returns-else-zeros c =
    let a = c.args.self in
    c.if-zeros.false ∙ pass-remains a.order field a.count a.dir.now a.bytes.now c.loop-k.k c.loop-k.at c.loop-k.invariant (omega arith) _ c.zeros.ensures (ap not c.if-zeros.false)
