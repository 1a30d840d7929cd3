-- `compare_records` meets its contract. Assumes nothing.
use mathlib.Core.Path.{ap₂, ◌∙◌}
use Rattle.layout.specs.Layout.{record_at}
use Rattle.data_model.specs.Entry.{by_rank}
use Rattle.data_model.specs.declared.entry.Rank.{Rank}
use Rattle.tree.proofs.RecordParts.{part-long}
use Rattle.tree.proofs.RankLaws.{rank-read}
use Rattle.tree.proofs.stored.Tree.compare_records.Goals as goal

pub value_at-a-requires : goal.value_at-a-requires
value_at-a-requires c = c.requires.0.bounds

pub value_at-b-requires : goal.value_at-b-requires
value_at-b-requires c = c.requires.1.bounds

pub time_at-requires : goal.time_at-requires
time_at-requires c = c.requires.0

pub payload_digest-requires : goal.payload_digest-requires
payload_digest-requires c = part-long _ _ _ _ c.value_at-a.ensures c.requires.0.bounds

pub payload_length-requires : goal.payload_length-requires
payload_length-requires c = part-long _ _ _ _ c.value_at-a.ensures c.requires.0.bounds

pub time_at-requires-2 : goal.time_at-requires-2
time_at-requires-2 c = c.requires.1

pub payload_digest-requires-2 : goal.payload_digest-requires-2
payload_digest-requires-2 c = part-long _ _ _ _ c.value_at-b.ensures c.requires.1.bounds

pub payload_length-requires-2 : goal.payload_length-requires-2
payload_length-requires-2 c = part-long _ _ _ _ c.value_at-b.ensures c.requires.1.bounds

pub returns : goal.returns
returns c =
    c.compare_ranks.ensures
    ∙ ap₂ (λ (x y : Rank). by_rank x y)
    (rank-read _ (record_at c.args.j c.args.self.dir.now c.args.self.bytes.now) _ c.value_at-a.ensures _ c.time_at.ensures _ c.payload_digest.ensures _ c.payload_length.ensures)
    (rank-read _ (record_at c.args.k c.args.self.dir.now c.args.self.bytes.now) _ c.value_at-b.ensures _ c.time_at-2.ensures _ c.payload_digest-2.ensures _ c.payload_length-2.ensures)
