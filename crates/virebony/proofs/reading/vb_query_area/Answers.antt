-- `vb_query_area` meets its contract: the record lies where the part says. Assumes nothing.
use Rattle.store.specs.Store.{store_of}
use Rattle.plain.specs.Input.{ignore_of, area_of}
use Rattle.virebony.proofs.DoorLaws.{area_lies}
use Rattle.virebony.proofs.reading.vb_query_area.Goals as goal

pub returns-clause-spt_value : goal.returns-clause-spt_value
returns-clause-spt_value c =
    area_lies (store_of c.args.state c.args.spt.now c.args.spt_dir.now c.args.tsp.now c.args.tsp_dir.now) c.args.last.now c.into-3.result c.area_step.result c.into-3.ensures
    c.into-2.result (ignore_of c.args.ignore) c.into-2.ensures c.into.result (area_of c.args.area) c.into.ensures c.area_step.ensures
