-- `digits_behind` meets its contract. The invariant: the digits of what is left, with those behind, are all. Assumes nothing.
use native.Mathlib.Omega.{arith}
use mathlib.Core.Path.{sym, ◌∙◌}
use lib.ListN.{length-set}
use Rattle.text.proofs.DecimalLaws.{tens, digits_more, digits_last, digits-none}
use Rattle.text.proofs.decimal.digits_behind.Goals as goal

pub loop-rest-init : goal.loop-rest-init
loop-rest-init c = (c.requires, omega arith, omega arith, omega arith, omega arith, digits-none c.args.x c.args.d.now c.requires)

pub loop-rest-preserved : goal.loop-rest-preserved
loop-rest-preserved c =
    let l = c.loop-rest in
    let t = tens l.j l.rest l.invariant.3 c.loop-rest-test.true in
    (simp length-set l.invariant.0, omega (arith, t.two), omega arith, t.low, omega arith, digits_more _ l.d l.j l.rest l.invariant.5 (omega arith) l.invariant.3 c.loop-rest-test.true)

pub shape_of-d : goal.shape_of-d
shape_of-d c = simp length-set (c.loop-rest.invariant.0 ∙ sym c.requires)

pub returns : goal.returns
returns c =
    let l = c.loop-rest in
    (omega arith, digits_last _ l.d l.j l.rest l.invariant.5 (omega arith) l.invariant.1 (omega arith))
