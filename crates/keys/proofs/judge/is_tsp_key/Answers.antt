-- `is_tsp_key` meets its contract. Assumes nothing.
use mathlib.Core.Path.{◌∙◌}
use lib.ListN.{length}
use Rattle.keys.specs.Decode.{read_tsp}
use Rattle.keys.proofs.Decoding.{fills-whole}
use Rattle.keys.proofs.judge.is_tsp_key.Goals as goal

pub returns : goal.returns
unfolding read_tsp
returns c = c.is_key.ensures ∙ fills-whole 24 0 (length c.args.key.now) _ _
