-- `stands_at` meets its contract: the bytes of two addresses are the same. Assumes nothing.
use Rattle.tree.proofs.CoverLaws.{stands-bytes}
use Rattle.tree.proofs.stored.Tree.stands_at.Goals as goal

pub returns : goal.returns
returns c = stands-bytes c.requires c.args.self.fits _ _ c.address_at.ensures _ c.same.ensures
