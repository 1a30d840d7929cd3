-- `clear` meets its contract. Assumes nothing.
use Rattle.layout.proofs.BufferLaws.{cleared-is}
use Rattle.layout.proofs.bytes.clear.Goals as goal

pub returns : goal.returns
returns c =
    let a = c.args in
    cleared-is a.from a.to a.buf.now _ c.requires.0 c.requires.1 (c.fill.ensures.after λ y e. e)
