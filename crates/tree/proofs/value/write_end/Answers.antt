-- `write_end` meets its contract: the length, and the origin in the part behind it. Assumes nothing.
use Rattle.tree.proofs.RecordParts.{end-wrote}
use Rattle.tree.proofs.value.write_end.Goals as goal

pub returns : goal.returns
returns c =
    let f = c.write_u64 in
    end-wrote c.args.n c.args.kind c.args.session c.args.out.now f.new.out _ c.requires f.ensures.1 c.write_origin.ensures
