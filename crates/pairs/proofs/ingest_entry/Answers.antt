-- `ingest_entry` meets its contract: the core's outcome, with what it pruned in pairs. Assumes nothing.
use Rattle.store.specs.Store.{tallied_of}
use Rattle.store.specs.Ingest.{ingested_says}
use Rattle.pairs.proofs.OutcomeLaws.{in-room, layered, verdict-said}
use Rattle.pairs.specs.Pairs.{pruned_count}
use mathlib.Core.Path.{◌∙◌, ap}
use Rattle.pairs.proofs.ingest_entry.Goals as goal

pub write_pairs-requires : goal.write_pairs-requires
write_pairs-requires c =
    let a = c.args in
    let r = c.ingest_with_room-r in
    in-room (tallied_of a.state a.spt.now a.spt_dir.now a.tsp.now a.tsp_dir.now a.tally.now) a.pairs.now a.ingestion
    (ingested_says a.state r.result.ingested) r.new.spt r.new.spt_dir r.new.tsp r.new.tsp_dir r.new.tally r.result.numbers c.pruned_count.result r.ensures (c.pruned_count.ensures ∙ ap pruned_count (verdict-said a.state r.result.ingested))

pub returns : goal.returns
returns c =
    let a = c.args in
    let r = c.ingest_with_room-r in
    (layered (tallied_of a.state a.spt.now a.spt_dir.now a.tsp.now a.tsp_dir.now a.tally.now) a.pairs.now a.ingestion
    (ingested_says a.state r.result.ingested) r.new.spt r.new.spt_dir r.new.tsp r.new.tsp_dir r.new.tally r.result.numbers c.pruned_count.result r.ensures (c.pruned_count.ensures ∙ ap pruned_count (verdict-said a.state r.result.ingested))).done _ c.write_pairs.ensures
