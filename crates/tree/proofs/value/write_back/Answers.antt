-- `write_back` meets its contract. Assumes nothing.
use Rattle.tree.proofs.RecordParts.{back-wrote}
use Rattle.tree.proofs.value.write_back.Goals as goal
use Rattle.tree.proofs.value.write_back.Goals.{After-slice_known-2-1}

pub returns : goal.returns
returns c =
    let g = c.write in
    back-wrote c.args.token.now c.args.n c.args.kind c.args.session c.requires.0 c.args.out.now g.new.buf _ c.requires.1 g.ensures c.write_end.ensures
