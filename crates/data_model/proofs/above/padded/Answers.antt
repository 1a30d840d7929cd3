-- `padded` meets its contract. Assumes nothing.
use mathlib.Core.Path.{ap, ◌∙◌}
use mathlib.Core.List.{◌++◌}
use lib.ListN.{length, drop, replicate}
use Rattle.std.proofs.lemmas.List.{drop-replicate}
use Rattle.data_model.proofs.above.padded.Goals as goal

pub returns : goal.returns
returns g c =
    ap (◌++ drop (length c.args.items.now) (replicate g.row.N c.args.filler)) c.copy_from_slice.ensures.after
    ∙ ap (c.args.items.now ++◌) (drop-replicate (length c.args.items.now) g.row.N c.args.filler)
