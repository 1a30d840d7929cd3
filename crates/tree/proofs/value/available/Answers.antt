-- `available` meets its contract. Assumes nothing.
use mathlib.Core.Path.{ap, ◌∙◌}
use Rattle.keys.specs.Decode.{number}
use Rattle.keys.proofs.Reading.{rest}
use Rattle.tree.specs.Value.{available_at, read_value}
use Rattle.tree.proofs.value.available.Goals as goal

pub returns : goal.returns
unfolding read_value
returns c = c.read_u64.ensures ∙ ap number (rest c.args.value.now available_at)
