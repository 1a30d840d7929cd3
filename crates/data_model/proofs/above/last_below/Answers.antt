-- `last_below` meets its contract: no byte from j on can be raised. Assumes nothing.
use Prim.Native.Nat.{ℕ, ◌+◌, ◌-◌}
use mathlib.Core.Path.{◌≡◌, ap, ◌∙◌}
use native.Mathlib.Omega.{arith}
use lib.ListN.{length, drop}
use Rattle.data_model.specs.Above.{raised_bytes}
use Rattle.data_model.proofs.Raise.{raised-here, raised-next, raised-none}
use Rattle.data_model.proofs.above.last_below.Goals as goal

pub loop-j-init : goal.loop-j-init
loop-j-init c = raised-none c.args.c.now (length c.args.c.now) (omega arith)

pub returns-then-c-j-lt255 : goal.returns-then-c-j-lt255
returns-then-c-j-lt255 c =
    let l = c.loop-j in
    let e : l.j - 1 + 1 ≡ l.j = omega arith in
    (omega arith, c.if-c-j-lt255.true, raised-here c.args.c.now (l.j - 1) (omega arith) (ap (λ (n : ℕ). raised_bytes (drop n c.args.c.now)) e ∙ l.invariant) c.if-c-j-lt255.true)

pub loop-j-preserved : goal.loop-j-preserved
loop-j-preserved c =
    let l = c.loop-j in
    let e : l.j - 1 + 1 ≡ l.j = omega arith in
    (raised-next c.args.c.now (l.j - 1) (omega arith) (ap (λ (n : ℕ). raised_bytes (drop n c.args.c.now)) e ∙ l.invariant) c.if-c-j-lt255.false)
