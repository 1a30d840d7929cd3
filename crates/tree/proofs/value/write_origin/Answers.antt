-- `write_origin` meets its contract: the kind is stored, and the session number written in the part behind it. Assumes nothing.
use Rattle.tree.proofs.RecordParts.{origin-wrote}
use Rattle.tree.proofs.value.write_origin.Goals as goal
use Rattle.tree.proofs.value.write_origin.Goals.{Start}

pub returns : goal.returns
returns c = origin-wrote c.args.kind c.args.session c.args.out.now _ c.requires c.write_u64.ensures.1
