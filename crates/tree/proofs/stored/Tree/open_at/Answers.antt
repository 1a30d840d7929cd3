-- `open_at` meets its contract. Assumes nothing.
use mathlib.Core.Path.{refl}
use native.Mathlib.Omega.{arith}
use Rattle.tree.proofs.AddressLaws.{open-part}
use Rattle.tree.proofs.stored.Tree.open_at.Goals as goal

pub slice_bounds-result-count : goal.slice_bounds-result-count
slice_bounds-result-count c = omega (arith, (open-part _ _ _ _ c.address_at-address.ensures refl).0)

pub returns : goal.returns
returns c = (open-part _ _ _ _ c.address_at-address.ensures refl).1
