-- `numbers_listed`: `ingest_entry_numbers` is an ingestion of a list. Assumes nothing.
use Rattle.call_laws.proofs.Links.{numbers-listed}
use Rattle.steps.proofs.numbers_listed.Goals as goal

pub returns : goal.returns
returns c = numbers-listed _ _ _ _ _ _ _ _ _ _ _ _ _ _ _ c.ingest_entry_numbers.ensures
