-- `start` meets its contract. Assumes nothing.
use Prim.Native.Nat.{ℕ, ◌+◌, ◌-◌}
use mathlib.Core.Path.{◌≡◌, sym, ap, ◌∙◌}
use native.Mathlib.Omega.{arith}
use lib.ListN.{take}
use Rattle.data_model.specs.Path.{last_end}
use Rattle.data_model.proofs.Raise.{last_none, last_some}
use Rattle.data_model.proofs.above.start.Goals as goal

pub returns-then-i-eq0 : goal.returns-then-i-eq0
returns-then-i-eq0 c = sym (ap (λ (n : ℕ). last_end 0 (take n c.args.ends.now)) c.if-i-eq0.true ∙ last_none 0 c.args.ends.now)

pub returns-else-i-eq0 : goal.returns-else-i-eq0
returns-else-i-eq0 c =
    let i = c.args.i in
    let e : i - 1 + 1 ≡ i = omega arith in
    sym (ap (λ (n : ℕ). last_end 0 (take n c.args.ends.now)) (sym e) ∙ last_some 0 (i - 1) c.args.ends.now (omega arith))
