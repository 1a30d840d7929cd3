-- `compare_lent` meets its contract. Assumes nothing.
use mathlib.Core.Path.{ap, ◌∙◌}
use Rattle.layout.specs.Layout.{record_at}
use Rattle.data_model.specs.Entry.{rank_of, by_rank}
use Rattle.data_model.specs.declared.entry.Rank.{Rank}
use Rattle.tree.proofs.RankLaws.{rank-read}
use Rattle.tree.proofs.stored.Tree.compare_lent.Goals as goal

pub returns : goal.returns
unfolding rank_of
returns c =
    c.compare_ranks.ensures
    ∙ ap (λ (x : Rank). by_rank x (rank_of c.args.e.now))
    (rank-read _ (record_at c.args.k c.args.self.dir.now c.args.self.bytes.now) _ c.value_at-a.ensures _ c.time_at.ensures _ c.payload_digest.ensures _ c.payload_length.ensures)
