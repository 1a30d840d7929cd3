-- `payload_digest` meets its contract. Assumes nothing.
use mathlib.Core.Path.{refl}
use Rattle.tree.specs.Value.{read_value}
use Rattle.tree.proofs.value.payload_digest.Goals as goal

pub returns : goal.returns
unfolding read_value
returns c = refl
