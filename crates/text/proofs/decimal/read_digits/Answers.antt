-- `read_digits` meets its contract. The invariant: the digits left follow those of the number so far. Assumes nothing.
use native.Mathlib.Omega.{arith}
use Prim.Native.Nat.{◌+◌, ◌*◌}
use mathlib.Core.Path.{◌≡◌, refl, ◌∙◌}
use lib.ListN.{get_or}
use Rattle.text.specs.Hex.{digit_value}
use Rattle.text.proofs.DecimalLaws.{number-goes, number-done, value-is, value-past}
use Rattle.text.proofs.decimal.read_digits.Goals as goal

pub loop-b-init : goal.loop-b-init
loop-b-init c = (omega arith, refl)

pub returns-in_err-checked_mul : goal.returns-in_err-checked_mul
returns-in_err-checked_mul c =
    let l = c.loop-b in
    c.from_residual.ensures ∙ value-past l.n _ c.args.s.now l.b-index l.invariant.1 (omega arith) (omega (arith, c.in_err-checked_mul.ensures))

pub returns-in_err-n : goal.returns-in_err-n
returns-in_err-n c =
    let l = c.loop-b in
    c.from_residual-in_err-n.ensures
    ∙ value-past l.n _ c.args.s.now l.b-index l.invariant.1 (omega arith) (omega (arith, c.in_ok-checked_mul.ensures, c.digit_value.ensures, c.from.ensures, c.in_err-n.ensures))

pub loop-b-preserved : goal.loop-b-preserved
loop-b-preserved c =
    let l = c.loop-b in
    let e : c.in_ok-n.n ≡ l.n * 10 + digit_value (get_or c.args.s.now l.b-index 0) = omega (arith, c.in_ok-checked_mul.ensures, c.digit_value.ensures, c.from.ensures, c.in_ok-n.ensures) in
    (omega (arith, c.in_ok-n.ensures), l.invariant.1 ∙ number-goes l.n c.args.s.now l.b-index (omega arith) ∙ rw e)

pub returns : goal.returns
returns c =
    let l = c.loop-b in
    value-is _ l.n (l.invariant.1 ∙ number-done l.n c.args.s.now l.b-index (omega arith)) l.invariant.0
