-- `first_places` keeps the bounds of the table. Assumes nothing.
use native.Mathlib.Omega.{arith}
use Rattle.tree.proofs.FormedLaws.{formed-readable}
use Rattle.tree.proofs.stored.Tree.first_places.Goals as goal

pub time_at-requires : goal.time_at-requires
time_at-requires c = formed-readable c.requires.0 _ (omega arith)
