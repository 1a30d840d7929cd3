-- `shift_down` meets its contract. Assumes nothing.
use mathlib.Core.Path.{◌∙◌}
use native.Mathlib.Omega.{arith}
use Rattle.layout.proofs.BufferLaws.{moved-is, moved-there}
use Rattle.layout.proofs.bytes.shift_down.Goals as goal

pub returns-then-from-to : goal.returns-then-from-to
returns-then-from-to c =
    let a = c.args in
    c.copy_within.ensures.after ∙ moved-is a.from a.to a.n a.buf.now

pub returns-else-from-to : goal.returns-else-from-to
returns-else-from-to c =
    let a = c.args in
    moved-there a.from a.to a.n a.buf.now (omega arith)
