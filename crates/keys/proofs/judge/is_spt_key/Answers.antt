-- `is_spt_key` meets its contract. Assumes nothing.
use mathlib.Core.Path.{◌∙◌}
use lib.ListN.{length}
use Rattle.keys.specs.Decode.{read_spt}
use Rattle.keys.proofs.Decoding.{fills-whole}
use Rattle.keys.proofs.judge.is_spt_key.Goals as goal

pub returns : goal.returns
unfolding read_spt
returns c = c.is_key.ensures ∙ fills-whole 16 8 (length c.args.key.now) _ _
