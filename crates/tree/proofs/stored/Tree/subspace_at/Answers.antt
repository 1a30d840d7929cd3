-- `subspace_at` meets its contract: two numbers, one behind the other. Assumes nothing.
use mathlib.Core.Path.{ap}
use native.Mathlib.Omega.{arith}
use lib.ListN.{length, length-drop}
use Rattle.keys.proofs.Reading.{rest}
use Rattle.tree.proofs.AddressLaws.{address-long, subspace-read}
use Rattle.tree.proofs.stored.Tree.subspace_at.Goals as goal

pub read_u64-requires : goal.read_u64-requires
read_u64-requires c = omega (arith, address-long _ _ _ c.address_at-address.ensures)

pub slice_bounds-read_u64-count : goal.slice_bounds-read_u64-count
slice_bounds-read_u64-count c = omega (arith, address-long _ _ _ c.address_at-address.ensures)

pub slice_bounds-read_u64-start : goal.slice_bounds-read_u64-start
slice_bounds-read_u64-start c = omega (arith, address-long _ _ _ c.address_at-address.ensures)

pub read_u64-requires-2 : goal.read_u64-requires-2
read_u64-requires-2 c =
    let l = c.address_at-address.result.now in
    omega (arith, address-long _ _ _ c.address_at-address.ensures, length-drop 8 l, ap length (rest l 8))

pub returns : goal.returns
returns c = subspace-read c.requires c.args.self.fits _ c.address_at-address.ensures _ _ c.read_u64.ensures c.read_u64-2.ensures
