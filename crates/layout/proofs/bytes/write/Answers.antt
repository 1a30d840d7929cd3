-- `write` meets its contract. Assumes nothing.
use Rattle.layout.proofs.BufferLaws.{written-is}
use Rattle.layout.proofs.bytes.write.Goals as goal

pub returns : goal.returns
returns c =
    let a = c.args in
    written-is a.at a.src.now a.buf.now _ c.copy_from_slice.ensures.after
