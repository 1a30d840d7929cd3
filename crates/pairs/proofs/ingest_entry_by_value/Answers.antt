-- `ingest_entry_by_value` meets its contract: that of `ingest_entry`, its pairs read again from their numbers. Assumes nothing.
use Rattle.pairs.proofs.PairLaws.{pairs-again}
use Rattle.pairs.proofs.ingest_entry_by_value.Goals as goal

pub returns : goal.returns
returns c =
    let i = c.ingest_entry-ingested in
    let n = c.in_numbers in
    rw (n.ensures.0, n.ensures.1, pairs-again) i.ensures
