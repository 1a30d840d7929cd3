-- `mark_outdating` meets its contract: the address is written once. Assumes nothing.
use Rattle.std.proofs.Common.{rules}
use Rattle.data_model.specs.Entry.{entry_of, rank_of}
use Rattle.key_laws.specs.KeyOrder.{Sized}
use Rattle.tree.specs.Stored.{triple_of}
use Rattle.tree.proofs.FormedLaws.{formed-readable}
use Rattle.tree.proofs.stored.Tree.mark_outdating.Goals as goal
use Rattle.tree.proofs.stored.Tree.mark_outdating.Goals.{Start}

sized : (c : Start) → Sized (triple_of (entry_of c.args.e))
unfolding triple_of entry_of rank_of
sized c = record { high = search rules; low = search rules; time = search rules }

pub mark_all-requires : goal.mark_all-requires
mark_all-requires c = (c.requires.0, c.requires.1, λ k h κs p q r x y z w. (formed-readable c.requires.0 k h, c.write_address-n.ensures.2, (sized (goal.at.mark_all-requires c).Start)))
