-- `mark_at` meets its contract: the address is written once. Assumes nothing.
use Rattle.tree.proofs.FormedLaws.{formed-readable}
use Rattle.tree.proofs.stored.Tree.mark_at.Goals as goal
use Rattle.tree.proofs.stored.Tree.mark_at.Goals.{Start}

pub mark_all-requires : goal.mark_all-requires
mark_all-requires c = (c.requires.0, c.requires.1, λ k h κs p q r x y z w. formed-readable c.requires.0 k h)
