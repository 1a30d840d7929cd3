-- `time_at` meets its contract, an arm for each order. Assumes nothing.
use Prim.Native.Nat.{◌-◌}
use mathlib.Core.Path.{refl}
use native.Mathlib.Omega.{arith}
use lib.ListN.{length, drop, length-drop}
use lib.Seq.{length-take-le}
use Rattle.tree.proofs.AddressLaws.{key-long, time-spt, time-tsp}
use Rattle.tree.proofs.stored.Tree.time_at.Goals as goal

pub overflow_sub-key : goal.overflow_sub-key
overflow_sub-key c = omega (arith, key-long c.requires c.args.self.fits _ c.key_at-key.ensures)

pub read_u64-requires : goal.read_u64-requires
read_u64-requires c = let k = c.key_at-key.result.now in let n = length k - 8 in omega (arith, key-long c.requires c.args.self.fits _ c.key_at-key.ensures, length-take-le (length k - n) (drop n k) (omega (arith, length-drop n k)), length-drop n k)

pub read_u64-requires-in-Tsp : goal.read_u64-requires-in-Tsp
read_u64-requires-in-Tsp c = omega (arith, key-long c.requires c.args.self.fits _ c.key_at-key.ensures)

pub returns-in-Spt : goal.returns-in-Spt
returns-in-Spt c = time-spt c.requires c.args.self.fits _ c.key_at-key.ensures c.in-Spt.is _ refl _ c.read_u64.ensures

pub returns-in-Tsp : goal.returns-in-Tsp
returns-in-Tsp c = time-tsp c.requires c.args.self.fits _ c.key_at-key.ensures c.in-Tsp.is _ c.read_u64-in-Tsp.ensures
