-- `removes_at` meets its contract: by the address, then by the rank. Assumes nothing.
use mathlib.Core.Path.{◌≡◌, ◌∙◌, ap}
use mathlib.Core.Bool.{Bool, true, false, not}
use borrow.Author.Rules.{rules}
use Rattle.laws.specs.Order.{is_less}
use Rattle.layout.specs.Layout.{record_at}
use Rattle.data_model.specs.Path.{field}
use Rattle.data_model.specs.Entry.{entry_of, rank_of, by_rank}
use Rattle.data_model.proofs.Answers.{ranked-older}
use Rattle.key_laws.specs.KeyOrder.{Sized}
use Rattle.tree.specs.Stored.{stored, triple_of}
use Rattle.tree.specs.Matching.{removes}
use Rattle.tree.specs.Address.{rank_at}
use Rattle.tree.proofs.AddressLaws.{removes-not}
use Rattle.tree.proofs.CoverLaws.{removes-rank}
use Rattle.tree.proofs.RankLaws.{not-older}
use Rattle.tree.proofs.stored.Tree.removes_at.Goals as goal
use Rattle.tree.proofs.stored.Tree.removes_at.Goals.{After-compare_lent}

by_rank_lem : (c : After-compare_lent) (g : Bool) → is_less (by_rank (rank_at c.args.self.order (record_at c.args.k c.args.self.dir.now c.args.self.bytes.now)) (rank_of c.args.e.now)) ≡ g
    → g ≡ removes (entry_of c.args.e.now) (stored c.args.self.order field c.args.e.now.namespace_id (record_at c.args.k c.args.self.dir.now c.args.self.bytes.now))
unfolding entry_of
by_rank_lem c g q = removes-rank c.requires.0 c.args.self.fits c.args.e.now c.requires.2 _ g q _ _ c.requires.1 c.address_at.ensures c.begins.ensures (ap not c.if-begins.true)

pub returns-in-Older : goal.returns-in-Older
unfolding is_less
returns-in-Older c = by_rank_lem (goal.at.returns-in-Older c).After-compare_lent true (ap is_less (ranked-older _ _ c.compare_lent.ensures c.in-Older.is))

pub returns-in_default : goal.returns-in_default
returns-in_default c = by_rank_lem (goal.at.returns-in_default c).After-compare_lent false (not-older _ _ c.compare_lent.ensures c.in_default.not-Older)

pub returns-else-begins : goal.returns-else-begins
unfolding entry_of
returns-else-begins c = c.if-begins.false ∙ removes-not _ _ _ (entry_of c.args.e.now) _ _ c.requires.1 c.address_at.ensures _ c.begins.ensures (ap not c.if-begins.false)
