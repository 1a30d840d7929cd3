-- `set_available` meets its contract: 8 bytes at the place of the available length. Assumes nothing.
use mathlib.Core.Path.{refl}
use Rattle.tree.proofs.RecordParts.{available-wrote}
use Rattle.tree.proofs.edit.set_available.Goals as goal

pub returns : goal.returns
returns c =
    let o = c.offset in
    let l = c.size in
    available-wrote o.result l.result _ c.args.k c.args.dir.now c.args.tree.now o.ensures.0 l.ensures.0 c.requires c.args.n _ refl c.write_u64.ensures.1
