-- `encode_component` meets its contract. The invariant: what is written so far, with the key of the bytes left, is the key of the component. Assumes nothing.
use Prim.Native.Nat.{◌+◌}
use mathlib.Core.List.{[]}
use native.Mathlib.Omega.{arith}
use lib.ListN.{drop, get_or}
use Rattle.keys.specs.Encode.{escaped, component_key, component_end}
use Rattle.laws.proofs.Lists.{wrote_none, wrote-lent, wrote-all, wrote-length}
use Rattle.keys.proofs.Encoding.{component-at, component-done, escaped-most}
use Rattle.keys.proofs.encode.encode_component.Goals as goal

pub loop-b-init : goal.loop-b-init
loop-b-init c = (omega arith, wrote_none _ _)

pub overflow_add-at : goal.overflow_add-at
overflow_add-at c =
    let l = c.loop-b in
    let s = c.args.c.now in
    let e = c.encode_byte-at in
    omega (arith, e.ensures.0, escaped-most (get_or s l.b-index 0))

pub loop-b-preserved : goal.loop-b-preserved
loop-b-preserved c =
    let l = c.loop-b in
    let s = c.args.c.now in
    let e = c.encode_byte-at in (
      omega (arith, e.ensures.0, escaped-most (get_or s l.b-index 0)),
      wrote-lent _ (escaped (get_or s l.b-index 0)) (component_key (drop (l.b-index + 1) s)) _ l.out _ l.at e.result
          (rw (component-at s l.b-index (omega arith)) at l.invariant.1)
          (omega (arith, e.ensures.0, escaped-most (get_or s l.b-index 0), l.invariant.1.size))
          e.ensures.0
          e.ensures.1,
    )

pub returns : goal.returns
returns c =
    let l = c.loop-b in
    let a = c.args in
    let e = c.write_mark in
    let d = wrote-lent (component_key a.c.now) (component_end) [] a.out.now l.out _ l.at e.result
    (rw (component-done a.c.now l.b-index (omega arith)) at l.invariant.1)
    (omega (arith, e.ensures.0, l.invariant.1.size))
    e.ensures.0
    e.ensures.1 in
    (wrote-length _ _ _ _ d, wrote-all _ _ _ _ d)
