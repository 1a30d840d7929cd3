-- `encode_components` meets its contract. The invariant: what is written so far, with the key of the components left, is the path's key. Assumes nothing.
use Prim.Native.Nat.{◌≤◌, ◌*◌, ◌-◌, ◌+◌}
use mathlib.Core.List.{[]}
use native.Mathlib.Omega.{arith}
use native.Mathlib.Nat.{le_refl}
use lib.ListN.{length, get_or}
use Rattle.data_model.specs.Path.{cut}
use Rattle.keys.specs.Encode.{component_key, path_key, path_end}
use Rattle.laws.proofs.Lists.{wrote_none, wrote-lent, wrote-all, wrote-length}
use Rattle.data_model.proofs.Values.{next-end, NextEnd, length-piece, ends-top}
use Rattle.laws.specs.Lists.{piece}
use Rattle.keys.proofs.Encoding.{path-at, path-done, component-most}
use Rattle.keys.proofs.encode.encode_components.Goals as goal
use Rattle.keys.proofs.encode.encode_components.Goals.{In-loop-end}

-- In a turn: the end that it reads is within the bytes, and not below the last one.
next : (c : In-loop-end)
    → NextEnd (length c.args.bytes.now) (length c.args.bytes.now) c.loop-end.from c.loop-end.end-index c.args.ends.now
next c =
    let a = c.args in
    next-end (length a.bytes.now) (length a.bytes.now) c.loop-end.from c.loop-end.end-index a.ends.now (omega arith) c.loop-end.invariant.1

-- The component that a turn writes is at most twice its length and its mark.
long : (c : In-loop-end) → let a = c.args in let e = get_or a.ends.now c.loop-end.end-index 0 in
    length (component_key (piece c.loop-end.from e a.bytes.now)) ≤ 2 * (e - c.loop-end.from) + 2
long c =
    let a = c.args in
    let e = get_or a.ends.now c.loop-end.end-index 0 in
    let x = piece c.loop-end.from e a.bytes.now in
    omega (arith, component-most x, length-piece c.loop-end.from e a.bytes.now (next c).low)

pub loop-end-init : goal.loop-end-init
loop-end-init c = (omega arith, c.requires.0, wrote_none _ _)

pub slice_bounds-encode_component-count : goal.slice_bounds-encode_component-count
slice_bounds-encode_component-count c = (next (goal.at.slice_bounds-encode_component-count c).In-loop-end).up

pub slice_bounds-encode_component-start : goal.slice_bounds-encode_component-start
slice_bounds-encode_component-start c = (next (goal.at.slice_bounds-encode_component-start c).In-loop-end).up

pub slice_bounds-encode_component-end : goal.slice_bounds-encode_component-end
slice_bounds-encode_component-end c = (next (goal.at.slice_bounds-encode_component-end c).In-loop-end).low

pub slice_bounds-encode_component-count-in-loop-end : goal.slice_bounds-encode_component-count-in-loop-end
slice_bounds-encode_component-count-in-loop-end c = c.loop-end.invariant.2.room

pub encode_component-at-requires : goal.encode_component-at-requires
encode_component-at-requires c =
    let l = c.loop-end in
    let a = c.args in
    let n = next (goal.at.encode_component-at-requires c).In-loop-end in
    simp (length-piece l.from (get_or a.ends.now l.end-index 0) a.bytes.now n.low, length-piece l.at (length l.out) l.out (le_refl (length l.out)))
    (omega (arith, n.up, n.low, l.invariant.2.size, c.requires.1))

pub overflow_add-at : goal.overflow_add-at
overflow_add-at c =
    let e = c.encode_component-at in
    omega (arith, e.ensures.0, long (goal.at.overflow_add-at c).In-loop-end, (next (goal.at.overflow_add-at c).In-loop-end).up, (next (goal.at.overflow_add-at c).In-loop-end).low, c.loop-end.invariant.0, c.requires.1)

pub loop-end-preserved : goal.loop-end-preserved
loop-end-preserved c =
    let l = c.loop-end in
    let a = c.args in
    let e = c.encode_component-at in
    let n = next (goal.at.loop-end-preserved c).In-loop-end in (
      omega (arith, e.ensures.0, long (goal.at.loop-end-preserved c).In-loop-end, n.up),
      n.more,
      wrote-lent _ (component_key (piece l.from (get_or a.ends.now l.end-index 0) a.bytes.now)) _ _ l.out _ l.at e.result
          (rw (path-at a.bytes.now l.from l.end-index a.ends.now (omega arith)) at l.invariant.2)
          (omega (arith, e.ensures.0, long (goal.at.loop-end-preserved c).In-loop-end, n.up, n.low, l.invariant.2.size, c.requires.1))
          e.ensures.0
          e.ensures.1,
    )

pub write_mark-requires : goal.write_mark-requires
write_mark-requires c =
    let l = c.loop-end in
    let top = ends-top _ _ _ _ l.invariant.1 in
    simp (length-piece l.at (length l.out) l.out (le_refl (length l.out)))
    (omega (arith, top, l.invariant.2.size))

pub returns : goal.returns
returns c =
    let l = c.loop-end in
    let a = c.args in
    let e = c.write_mark in
    let top = ends-top _ _ _ _ l.invariant.1 in
    let d = wrote-lent (path_key (cut a.bytes.now 0 a.ends.now)) (path_end) [] a.out.now l.out _ l.at e.result
    (rw (path-done a.bytes.now l.from l.end-index a.ends.now (omega arith)) at l.invariant.2)
    (omega (arith, e.ensures.0, l.invariant.2.size, top, c.requires.1))
    e.ensures.0
    e.ensures.1 in
    (wrote-length _ _ _ _ d, wrote-all _ _ _ _ d)
