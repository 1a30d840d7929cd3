-- `pairs_listed`: `pairs::ingest_entry` is an ingestion of a list. Assumes nothing.
use Rattle.call_laws.proofs.Links.{pairs-listed}
use Rattle.steps.proofs.pairs_listed.Goals as goal

pub returns : goal.returns
returns c = pairs-listed _ _ _ _ _ _ _ _ _ _ _ _ _ _ _ c.ingest_entry_by_value.ensures
