-- `compare_components` meets its contract: what is left of both compares as the whole does. Assumes nothing.
use mathlib.Core.Path.{sym, ap, ◌∙◌}
use native.Mathlib.Omega.{arith}
use lib.ListN.{length}
use Rattle.data_model.specs.Refusal.{ordering_says}
use Rattle.data_model.proofs.Derived.{differs, agrees, number_order}
use Rattle.data_model.proofs.Compare.{a-next, b-next, comparing-next, component-differs, components-ended}
use Rattle.data_model.proofs.checked.compare_components.Goals as goal

pub slice_bounds-compare_bytes-count : goal.slice_bounds-compare_bytes-count
slice_bounds-compare_bytes-count c = omega (arith, c.min-i-end.ensures, a-next _ _ _ _ _ _ _ c.loop-i.invariant (omega (arith, c.min-i-end.ensures)) (omega (arith, c.min-i-end.ensures)))

pub slice_bounds-compare_bytes-start : goal.slice_bounds-compare_bytes-start
slice_bounds-compare_bytes-start c = omega (arith, c.min-i-end.ensures, a-next _ _ _ _ _ _ _ c.loop-i.invariant (omega (arith, c.min-i-end.ensures)) (omega (arith, c.min-i-end.ensures)))

pub slice_bounds-compare_bytes-end : goal.slice_bounds-compare_bytes-end
slice_bounds-compare_bytes-end c = omega (arith, c.min-i-end.ensures, a-next _ _ _ _ _ _ _ c.loop-i.invariant (omega (arith, c.min-i-end.ensures)) (omega (arith, c.min-i-end.ensures)))

pub slice_bounds-compare_bytes-count-in-loop-i : goal.slice_bounds-compare_bytes-count-in-loop-i
slice_bounds-compare_bytes-count-in-loop-i c = omega (arith, c.min-i-end.ensures, b-next _ _ _ _ _ _ _ c.loop-i.invariant (omega (arith, c.min-i-end.ensures)) (omega (arith, c.min-i-end.ensures)))

pub slice_bounds-compare_bytes-start-in-loop-i : goal.slice_bounds-compare_bytes-start-in-loop-i
slice_bounds-compare_bytes-start-in-loop-i c = omega (arith, c.min-i-end.ensures, b-next _ _ _ _ _ _ _ c.loop-i.invariant (omega (arith, c.min-i-end.ensures)) (omega (arith, c.min-i-end.ensures)))

pub slice_bounds-compare_bytes-end-in-loop-i : goal.slice_bounds-compare_bytes-end-in-loop-i
slice_bounds-compare_bytes-end-in-loop-i c = omega (arith, c.min-i-end.ensures, b-next _ _ _ _ _ _ _ c.loop-i.invariant (omega (arith, c.min-i-end.ensures)) (omega (arith, c.min-i-end.ensures)))

pub returns-then-ne : goal.returns-then-ne
returns-then-ne c =
    let a = c.args in
    let l = c.loop-i in
    component-differs a.a.now a.a_ends.now a.b.now a.b_ends.now l.a_from l.b_from l.i _ l.invariant.left (omega (arith, c.min-i-end.ensures)) (omega (arith, c.min-i-end.ensures)) _ c.compare_bytes-order.ensures
    (differs c.compare_bytes-order.result (sym c.ne.ensures ∙ c.if-ne.true))

pub loop-i-preserved : goal.loop-i-preserved
loop-i-preserved c =
    let a = c.args in
    let l = c.loop-i in
    comparing-next a.a.now a.a_ends.now a.b.now a.b_ends.now l.i l.a_from l.b_from l.invariant (omega (arith, c.min-i-end.ensures)) (omega (arith, c.min-i-end.ensures))
    (sym c.compare_bytes-order.ensures ∙ agrees c.compare_bytes-order.result (sym c.ne.ensures ∙ c.if-ne.false))

pub returns : goal.returns
returns c =
    let a = c.args in
    let l = c.loop-i in
    ap ordering_says c.cmp.ensures
    ∙ number_order (length a.a_ends.now) (length a.b_ends.now)
    ∙ components-ended a.a.now a.a_ends.now a.b.now a.b_ends.now l.a_from l.b_from l.i _ l.invariant.left l.invariant.a_within l.invariant.b_within (omega (arith, c.min-i-end.ensures))
