-- `vb_ingest_entry` meets its contract: the pairs of the core, written as rows. Assumes nothing.
use Rattle.store.specs.Store.{tallied_of}
use Rattle.store.specs.Ingest.{ingested_says}
use Rattle.virebony.proofs.RowLaws.{rows_fit, rows_told}
use Rattle.virebony.proofs.rows.vb_ingest_entry.Goals as goal

pub write_rows-requires : goal.write_rows-requires
write_rows-requires c =
    let a = c.args in
    let core = c.ingest_with_room-r in
    let told = c.plain_ingested-answer in
    rows_fit (tallied_of a.state a.spt.now a.spt_dir.now a.tsp.now a.tsp_dir.now a.tally.now) a.prune.now _ _ c.ingestion_of-ingestion.ensures (ingested_says a.state core.result.ingested) core.new.spt core.new.spt_dir core.new.tsp core.new.tsp_dir core.new.tally core.result.numbers told.result core.ensures told.ensures

pub returns : goal.returns
returns c =
    let a = c.args in
    let core = c.ingest_with_room-r in
    let told = c.plain_ingested-answer in
    rows_told (tallied_of a.state a.spt.now a.spt_dir.now a.tsp.now a.tsp_dir.now a.tally.now) a.prune.now _ _ c.ingestion_of-ingestion.ensures (ingested_says a.state core.result.ingested) core.new.spt core.new.spt_dir core.new.tsp core.new.tsp_dir core.new.tally core.result.numbers told.result core.ensures told.ensures _ c.write_rows.ensures
