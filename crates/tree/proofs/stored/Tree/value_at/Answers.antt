-- `value_at` meets its contract. Assumes nothing.
use mathlib.Core.Path.{refl}
use Rattle.tree.proofs.RecordParts.{value-part}
use Rattle.tree.proofs.stored.Tree.value_at.Goals as goal

pub returns : goal.returns
returns c =
    let a = c.args in
    value-part c.offset.result c.size.result _ c.args.k a.self.dir.now a.self.bytes.now c.offset.ensures.0 c.size.ensures.0 c.requires refl
