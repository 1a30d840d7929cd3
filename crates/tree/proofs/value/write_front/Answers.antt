-- `write_front` meets its contract. Assumes nothing.
use Rattle.tree.proofs.RecordParts.{front-wrote}
use Rattle.tree.proofs.value.write_front.Goals as goal

pub returns : goal.returns
returns c =
    let f = c.write_u64 in
    front-wrote c.args.n c.args.digest.now c.requires.0 c.args.out.now f.new.out _ c.requires.1 f.ensures.1 c.write.ensures
