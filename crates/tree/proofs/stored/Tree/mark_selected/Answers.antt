-- `mark_selected` meets its contract. Assumes nothing.
use Rattle.tree.proofs.FormedLaws.{formed-readable}
use Rattle.tree.proofs.stored.Tree.mark_selected.Goals as goal

pub mark_all-requires : goal.mark_all-requires
mark_all-requires c = (c.requires.0, c.requires.1, λ k h κs p q r x y z w v u. formed-readable c.requires.0 k h)
