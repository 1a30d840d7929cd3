-- `payload_length` meets its contract. Assumes nothing.
use Rattle.tree.specs.Value.{read_value}
use Rattle.tree.proofs.value.payload_length.Goals as goal

pub returns : goal.returns
unfolding read_value
returns c = c.read_u64.ensures
