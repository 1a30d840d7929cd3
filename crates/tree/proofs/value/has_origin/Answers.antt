-- `has_origin` meets its contract. Assumes nothing.
use mathlib.Core.Path.{ap, ◌∙◌}
use lib.ListN.{get_or}
use Rattle.data_model.specs.Origin.{is_origin}
use Rattle.keys.specs.Decode.{number}
use Rattle.keys.proofs.Reading.{rest}
use Rattle.tree.specs.Value.{origin_at, session_at, read_value}
use Rattle.tree.proofs.value.has_origin.Goals as goal

pub returns : goal.returns
unfolding read_value
returns c =
    let b = c.args.value.now in
    c.is_origin.ensures ∙ ap (is_origin (get_or b origin_at 0)) (c.read_u64.ensures ∙ ap number (rest b session_at))
