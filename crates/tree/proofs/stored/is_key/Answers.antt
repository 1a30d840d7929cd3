-- `is_key` meets its contract, an arm for each order. Assumes nothing.
use Rattle.data_model.specs.Path.{field}
use Rattle.tree.proofs.RecordParts.{judged-spt, judged-tsp}
use Rattle.tree.proofs.stored.is_key.Goals as goal

pub returns-in-Spt : goal.returns-in-Spt
returns-in-Spt c = judged-spt _ field _ _ c.in-Spt.is c.is_spt_key.ensures

pub returns-in-Tsp : goal.returns-in-Tsp
returns-in-Tsp c = judged-tsp _ field _ _ c.in-Tsp.is c.is_tsp_key.ensures
