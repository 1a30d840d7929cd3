-- `shift_up` meets its contract. Assumes nothing.
use mathlib.Core.Path.{◌∙◌}
use Rattle.layout.proofs.BufferLaws.{moved-is}
use Rattle.layout.proofs.bytes.shift_up.Goals as goal

pub returns : goal.returns
returns c =
    let a = c.args in
    c.copy_within.ensures.after ∙ moved-is a.from a.to a.n a.buf.now
