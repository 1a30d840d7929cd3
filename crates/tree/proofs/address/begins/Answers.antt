-- `begins` meets its contract. Assumes nothing.
use native.Mathlib.Omega.{arith}
use Rattle.tree.proofs.AddressLaws.{begins-short, begins-long}
use Rattle.tree.proofs.address.begins.Goals as goal

pub returns-then-address-n : goal.returns-then-address-n
returns-then-address-n c = begins-short c.args.front.now c.args.address.now (omega arith)

pub returns-then-alike_near_end : goal.returns-then-alike_near_end
returns-then-alike_near_end c = begins-long c.args.front.now c.args.address.now (omega arith) _ c.same.ensures
