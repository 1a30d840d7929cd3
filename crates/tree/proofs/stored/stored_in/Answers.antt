-- `stored_in` meets its contract. Assumes nothing.
use Rattle.tree.proofs.RecordParts.{stored-read}
use Rattle.tree.proofs.stored.stored_in.Goals as goal

pub returns : goal.returns
returns c =
    let d = c.key_said-d in
    let v = c.decode_entry_values-v in
    stored-read _ _ _ d.result v.result _ d.ensures v.ensures c.new.ensures
