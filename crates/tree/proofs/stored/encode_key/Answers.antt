-- `encode_key` meets its contract, an arm for each order: there is room, and the path is legal. Assumes nothing.
use mathlib.Core.Path.{◌∙◌}
use Rattle.data_model.specs.Path.{field}
use Rattle.tree.proofs.RecordParts.{written-or, wrote-spt, wrote-tsp}
use Rattle.tree.proofs.stored.encode_key.Goals as goal

pub returns-in-Spt : goal.returns-in-Spt
returns-in-Spt c =
    let f = c.encode_spt_entry_key in
    let n = c.unwrap_or in
    wrote-spt c.args.order field c.args.s c.args.p c.args.t c.requires.0 c.args.out.now f.new.out c.requires.1 _ n.result (n.ensures ∙ written-or _) c.in-Spt.is f.ensures.result_value f.ensures.out_after

pub returns-in-Tsp : goal.returns-in-Tsp
returns-in-Tsp c =
    let f = c.encode_tsp_entry_key in
    let n = c.unwrap_or-in-Tsp in
    wrote-tsp c.args.order field c.args.s c.args.p c.args.t c.requires.0 c.args.out.now f.new.out c.requires.1 _ n.result (n.ensures ∙ written-or _) c.in-Tsp.is f.ensures.result_value f.ensures.out_after
