-- `read_component` meets its contract. The invariant: what was read so far, in front of what reading on gives. Assumes nothing.
use Prim.Native.Nat.{◌≤◌, ◌+◌}
use mathlib.Core.Path.{◌≡◌, sym, ap, ◌∙◌}
use native.Mathlib.Omega.{arith}
use lib.ListN.{length, drop, take}
use lib.Seq.{length-take-le}
use Rattle.std.proofs.Common.{rules}
use Rattle.keys.specs.Encode.{escaped}
use Rattle.data_model.specs.Said.{refuses, says}
use Rattle.data_model.specs.Refusal.{said, refused_with}
use Rattle.keys.specs.Decode.{byte, component_mark, path_mark, token_of, more}
use Rattle.keys.proofs.Encoding.{escaped-some}
use Rattle.keys.proofs.Reading.{token-within, token-refusal, reading-none, reading-token, reading-full, reading-ends, reading-put, reading-more, part-refused, part-took}
use Rattle.keys.proofs.decode.read_component.Goals as goal
use Rattle.keys.proofs.decode.read_component.Goals.{In-Byte}

pub loop-b-init : goal.loop-b-init
loop-b-init c = reading-none _ _ _

-- The byte that a turn met is the one at its place.
met : (c : In-Byte) → token_of (drop c.loop-b.at c.args.k.now) ≡ says (byte c.in-Byte.b)
met c = search rules

within : (c : In-Byte) → c.loop-b.at + length (escaped c.in-Byte.b) ≤ length c.args.k.now
within c = token-within c.args.k.now c.loop-b.at (says (byte c.in-Byte.b)) c.loop-b.invariant.within (met c)

pub returns-in_err-b : goal.returns-in_err-b
unfolding more
returns-in_err-b c =
    let a = c.args in
    let l = c.loop-b in
    let n = refused_with c.from_residual.result in
    let s : said c.from_residual.result ≡ refuses n = search rules in
    let e : token_of (drop l.at a.k.now) ≡ refuses n = search rules in
    let p = part-refused _ _ _ (reading-token a.lim a.k.now a.bytes.now l.bytes l.at l.n l.invariant (refuses n) e) in
    (s ∙ ap refuses (token-refusal _ n (sym e)) ∙ p.0, p.1)

pub overflow_add-at : goal.overflow_add-at
overflow_add-at c = omega (arith, c.width-at.ensures, within (goal.at.overflow_add-at c).In-Byte)

pub loop-b-smaller : goal.loop-b-smaller
loop-b-smaller c = omega (arith, c.width-at.ensures, within (goal.at.loop-b-smaller c).In-Byte, escaped-some c.in-Byte.b)

pub loop-b-preserved : goal.loop-b-preserved
loop-b-preserved c =
    let a = c.args in
    let l = c.loop-b in
    reading-more a.lim a.k.now a.bytes.now l.bytes l.at l.n l.invariant _ _
    (met (goal.at.loop-b-preserved c).In-Byte)
    c.width-at.ensures
    c.if-n-lim.true
    (omega (arith, l.invariant.size, c.requires))

pub overflow_add-result : goal.overflow_add-result
overflow_add-result c =
    let a = c.args in
    let l = c.loop-b in
    let e : token_of (drop l.at a.k.now) ≡ says component_mark = search rules in
    omega (arith, token-within a.k.now l.at (says component_mark) l.invariant.within e)

pub returns-in-ComponentEnd : goal.returns-in-ComponentEnd
returns-in-ComponentEnd c =
    let a = c.args in
    let l = c.loop-b in
    let i = l.invariant in
    let w : l.n ≤ length l.bytes = omega (arith, i.below, i.size, c.requires) in
    let e : token_of (drop l.at a.k.now) ≡ says component_mark = search rules in
    part-took _ _ _ (take l.n l.bytes) l.n _
    (reading-ends a.lim a.k.now a.bytes.now l.bytes l.at l.n i e)
    (sym (length-take-le l.n l.bytes w))
    (reading-put a.lim a.k.now a.bytes.now l.bytes l.at l.n i w)

pub returns-in_default : goal.returns-in_default
returns-in_default c =
    let a = c.args in
    let l = c.loop-b in
    part-refused _ _ _ (reading-full a.lim a.k.now a.bytes.now l.bytes l.at l.n l.invariant _ (met (goal.at.returns-in_default c).In-Byte) c.if-n-lim.false)

pub returns-in_default-2 : goal.returns-in_default-2
unfolding more
returns-in_default-2 c =
    let a = c.args in
    let l = c.loop-b in
    let e : token_of (drop l.at a.k.now) ≡ says path_mark = search rules in
    part-refused _ _ _ (reading-token a.lim a.k.now a.bytes.now l.bytes l.at l.n l.invariant (says path_mark) e)
