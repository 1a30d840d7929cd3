-- `write_item` meets its contract: the subspace, the count and the newest timestamp, one behind the other. Assumes nothing.
use Rattle.tally.proofs.TallyBytes.{item-wrote}
use Rattle.tally.proofs.item.write_item.Goals as goal

pub returns : goal.returns
returns c =
    let s = c.write_subspace in
    let n = c.write_count in
    let t = c.write_u64 in
    item-wrote c.args.item c.args.out.now s.new.out n.new.out t.new.out c.requires s.ensures.1 n.ensures t.ensures.1
