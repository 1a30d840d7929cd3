-- `open` meets its contract. Assumes nothing.
use Rattle.layout.proofs.RetainLaws.{open-tree, open-dir}
use Rattle.layout.proofs.edit.open.Goals as goal

pub returns : goal.returns
returns c = record { bytes = open-tree c.args.tree.now _ (c.fill.ensures.after λ y e. e); numbers = open-dir c.args.dir.now _ (c.fill-2.ensures.after λ y e. e) }
