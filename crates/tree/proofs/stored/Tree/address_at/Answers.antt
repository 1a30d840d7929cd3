-- `address_at` meets its contract, an arm for each order. Assumes nothing.
use mathlib.Core.Path.{refl}
use native.Mathlib.Omega.{arith}
use Rattle.tree.proofs.AddressLaws.{key-long, address-spt, address-tsp}
use Rattle.tree.proofs.stored.Tree.address_at.Goals as goal

pub slice_bounds-result-count : goal.slice_bounds-result-count
slice_bounds-result-count c = omega (arith, key-long c.requires c.args.self.fits _ c.key_at-key.ensures)

pub slice_bounds-result-count-in-Tsp : goal.slice_bounds-result-count-in-Tsp
slice_bounds-result-count-in-Tsp c = omega (arith, key-long c.requires c.args.self.fits _ c.key_at-key.ensures)

pub slice_bounds-result-start : goal.slice_bounds-result-start
slice_bounds-result-start c = omega (arith, key-long c.requires c.args.self.fits _ c.key_at-key.ensures)

pub returns-in-Spt : goal.returns-in-Spt
returns-in-Spt c = address-spt c.requires c.args.self.fits _ c.key_at-key.ensures c.in-Spt.is _ refl

pub returns-in-Tsp : goal.returns-in-Tsp
returns-in-Tsp c = address-tsp c.requires c.args.self.fits _ c.key_at-key.ensures c.in-Tsp.is
