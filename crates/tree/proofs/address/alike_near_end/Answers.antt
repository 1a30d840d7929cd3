-- `alike_near_end` meets its contract. Assumes nothing.
use Prim.Native.Nat.{◌-◌}
use native.Mathlib.Omega.{arith}
use lib.ListN.{length}
use Rattle.tree.proofs.AddressLaws.{begins-not}
use Rattle.tree.proofs.address.alike_near_end.Goals as goal

pub returns-else-n-lt3 : goal.returns-else-n-lt3
returns-else-n-lt3 c = begins-not c.args.front.now c.args.address.now (length c.args.front.now - 3) (omega arith)
