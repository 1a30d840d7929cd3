-- `write_behind` meets its contract. The invariant: what is written so far, with the text of the components left, is the text of all. Assumes nothing.
use native.Mathlib.Omega.{arith}
use Prim.Native.Nat.{◌≤◌, ◌*◌, ◌-◌, ◌+◌}
use mathlib.Core.List.{◌++◌}
use native.Mathlib.Nat.{le_refl}
use lib.ListN.{length, drop, get_or, set, length-set}
use Rattle.laws.specs.Lists.{piece}
use Rattle.laws.proofs.Lists.{Wrote, wrote_none, wrote-lent, wrote-length, wrote-all}
use Rattle.data_model.specs.Path.{cut}
use Rattle.data_model.proofs.Values.{next-end, NextEnd, length-piece}
use Rattle.text.specs.PathField.{slash}
use Rattle.text.specs.PathText.{component_text, behind_text}
use Rattle.text.proofs.Lists.{wrote-store}
use Rattle.text.proofs.PathLaws.{component-most, behind-at, behind-done}
use Rattle.text.proofs.path_text.write_behind.Goals as goal
use Rattle.text.proofs.path_text.write_behind.Goals.{In-loop-end}

-- In a turn: the end that it reads is within the bytes, and not below the last one.
next : (c : In-loop-end) → NextEnd (length c.args.bytes.now) (length c.args.bytes.now) c.loop-end.from c.loop-end.end-index c.args.ends.now
next c = next-end (length c.args.bytes.now) (length c.args.bytes.now) c.loop-end.from c.loop-end.end-index c.args.ends.now (omega arith) c.loop-end.invariant.1

-- There is room for a component more.
room : (c : In-loop-end) → c.loop-end.at + 2 + 2 * (get_or c.args.ends.now c.loop-end.end-index 0 - c.loop-end.from) ≤ length c.loop-end.out
room c = omega (arith, (next c).up, (next c).low, c.loop-end.invariant.0, c.loop-end.invariant.2.size, c.requires.1)

-- The `/` is stored.
stored : (c : In-loop-end) → let l = c.loop-end in let a = c.args in let e = get_or a.ends.now l.end-index 0 in
    Wrote (behind_text (cut a.bytes.now a.start a.ends.now)) (component_text (piece l.from e a.bytes.now) ++ behind_text (cut a.bytes.now e (drop (l.end-index + 1) a.ends.now))) a.out.now (set l.out l.at slash) (l.at + 1)
stored c =
    let l = c.loop-end in
    let a = c.args in
    wrote-store _ _ _ l.out l.at slash (rw (behind-at a.bytes.now l.from l.end-index a.ends.now (omega arith)) at l.invariant.2) (omega (arith, room c))

long : (c : In-loop-end) → let e = get_or c.args.ends.now c.loop-end.end-index 0 in length (component_text (piece c.loop-end.from e c.args.bytes.now)) ≤ 2 * (e - c.loop-end.from) + 1
long c =
    let e = get_or c.args.ends.now c.loop-end.end-index 0 in
    omega (arith, component-most (piece c.loop-end.from e c.args.bytes.now), length-piece c.loop-end.from e c.args.bytes.now (next c).low)

pub loop-end-init : goal.loop-end-init
loop-end-init c = (omega arith, c.requires.0, wrote_none _ _)

pub bounds-out-at : goal.bounds-out-at
bounds-out-at c = omega (arith, room (goal.at.bounds-out-at c).In-loop-end)

pub overflow_add-at : goal.overflow_add-at
overflow_add-at c = omega (arith, room (goal.at.overflow_add-at c).In-loop-end)

pub slice_bounds-write_component-count : goal.slice_bounds-write_component-count
slice_bounds-write_component-count c = (next (goal.at.slice_bounds-write_component-count c).In-loop-end).up

pub slice_bounds-write_component-start : goal.slice_bounds-write_component-start
slice_bounds-write_component-start c = (next (goal.at.slice_bounds-write_component-start c).In-loop-end).up

pub slice_bounds-write_component-end : goal.slice_bounds-write_component-end
slice_bounds-write_component-end c = (next (goal.at.slice_bounds-write_component-end c).In-loop-end).low

pub slice_bounds-write_component-count-in-loop-end : goal.slice_bounds-write_component-count-in-loop-end
slice_bounds-write_component-count-in-loop-end c = simp length-set (omega (arith, room (goal.at.slice_bounds-write_component-count-in-loop-end c).In-loop-end))

pub slice_bounds-write_component-start-in-loop-end : goal.slice_bounds-write_component-start-in-loop-end
slice_bounds-write_component-start-in-loop-end c = simp length-set (omega (arith, room (goal.at.slice_bounds-write_component-start-in-loop-end c).In-loop-end))

pub write_component-at-requires : goal.write_component-at-requires
write_component-at-requires c =
    let l = c.loop-end in
    let a = c.args in
    let z = set l.out l.at slash in
    omega (arith, room (goal.at.write_component-at-requires c).In-loop-end, length-piece l.from (get_or a.ends.now l.end-index 0) a.bytes.now (next (goal.at.write_component-at-requires c).In-loop-end).low, length-piece (l.at + 1) (length z) z (le_refl (length z)), length-set l.out l.at slash)

pub overflow_add-at-in-loop-end : goal.overflow_add-at-in-loop-end
overflow_add-at-in-loop-end c = omega (arith, c.write_component-at.ensures.0, long (goal.at.overflow_add-at-in-loop-end c).In-loop-end, room (goal.at.overflow_add-at-in-loop-end c).In-loop-end)

pub loop-end-preserved : goal.loop-end-preserved
loop-end-preserved c =
    let l = c.loop-end in
    let a = c.args in
    let e = c.write_component-at in (
      omega (arith, e.ensures.0, long (goal.at.loop-end-preserved c).In-loop-end, (next (goal.at.loop-end-preserved c).In-loop-end).up, l.invariant.0),
      (next (goal.at.loop-end-preserved c).In-loop-end).more,
      wrote-lent _ (component_text (piece l.from (get_or a.ends.now l.end-index 0) a.bytes.now)) _ _ (set l.out l.at slash) _ (l.at + 1) e.result
          (stored (goal.at.loop-end-preserved c).In-loop-end)
          (simp length-set (omega (arith, e.ensures.0, long (goal.at.loop-end-preserved c).In-loop-end, room (goal.at.loop-end-preserved c).In-loop-end)))
          e.ensures.0
          e.ensures.1,
    )

pub shape_of-out : goal.shape_of-out
shape_of-out c = c.loop-end.invariant.2.size

pub returns : goal.returns
returns c =
    let l = c.loop-end in
    let a = c.args in
    let d = rw (behind-done a.bytes.now l.from l.end-index a.ends.now (omega arith)) at l.invariant.2 in
    (wrote-length _ _ _ _ d, wrote-all _ _ _ _ d)
