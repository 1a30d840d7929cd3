-- `write_hex` meets its contract. The invariant: what is written so far, with the digits of the bytes left, are the digits of all. Assumes nothing.
use native.Mathlib.Omega.{arith}
use Prim.Native.Nat.{◌+◌}
use lib.ListN.{drop, get_or}
use Rattle.text.specs.Hex.{hex_byte, hex_text}
use Rattle.laws.proofs.Lists.{wrote_none, wrote-lent, wrote-length, wrote-all}
use Rattle.text.proofs.HexLaws.{text_at, text-done}
use Rattle.text.proofs.hex.write_hex.Goals as goal

pub loop-b-init : goal.loop-b-init
loop-b-init c = (omega arith, wrote_none _ _)

pub overflow_add-at : goal.overflow_add-at
overflow_add-at c = omega (arith, c.write_hex_byte-at.ensures.0, c.loop-b.invariant.1.size)

pub loop-b-preserved : goal.loop-b-preserved
loop-b-preserved c =
    let l = c.loop-b in
    let s = c.args.s.now in
    let e = c.write_hex_byte-at in (
      omega (arith, e.ensures.0),
      wrote-lent _ (hex_byte (get_or s l.b-index 0)) (hex_text (drop (l.b-index + 1) s)) _ l.out _ l.at e.result
          (rw (text_at s l.b-index (omega arith)) at l.invariant.1)
          (omega (arith, e.ensures.0, l.invariant.1.size))
          e.ensures.0
          e.ensures.1,
    )

pub shape_of-out : goal.shape_of-out
shape_of-out c = c.loop-b.invariant.1.size

pub returns : goal.returns
returns c =
    let l = c.loop-b in
    let d = rw (text-done c.args.s.now l.b-index (omega arith)) at l.invariant.1 in
    (wrote-length _ _ _ _ d, wrote-all _ _ _ _ d)
