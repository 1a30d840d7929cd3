-- `stored_at` meets its contract: what is cut out of the tree are bytes, so that a key that is read is that of a path. Assumes nothing.
use Rattle.tree.proofs.RecordParts.{part-long, stored-says}
use Rattle.tree.proofs.stored.Tree.stored_at.Goals as goal

pub stored_in-requires : goal.stored_in-requires
stored_in-requires c = part-long _ _ _ _ c.value_at.ensures c.requires

pub returns : goal.returns
returns c =
    let a = c.args in
    let all_of = stored-says a.self.order a.namespace c.args.k a.self.dir.now a.self.bytes.now _ _ _ c.args.self.fits c.key_at.ensures c.value_at.ensures c.stored_in.ensures in record { value = all_of.0; path_value = all_of.1 }
