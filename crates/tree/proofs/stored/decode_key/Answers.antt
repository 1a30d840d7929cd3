-- `decode_key` meets its contract, an arm for each order. Assumes nothing.
use Rattle.data_model.specs.Path.{field}
use Rattle.tree.proofs.RecordParts.{read-spt, read-tsp}
use Rattle.tree.proofs.stored.decode_key.Goals as goal

pub returns-in-Spt : goal.returns-in-Spt
returns-in-Spt c = read-spt _ field _ _ c.in-Spt.is c.decode_spt_entry_key.ensures

pub returns-in-Tsp : goal.returns-in-Tsp
returns-in-Tsp c = read-tsp _ field _ _ c.in-Tsp.is c.decode_tsp_entry_key.ensures
