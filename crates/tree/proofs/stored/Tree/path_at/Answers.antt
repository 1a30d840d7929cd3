-- `path_at` meets its contract. Assumes nothing.
use mathlib.Core.Path.{◌∙◌}
use native.Mathlib.Omega.{arith}
use Rattle.keys.proofs.Reading.{rest}
use Rattle.tree.proofs.AddressLaws.{address-long, address-path}
use Rattle.tree.proofs.stored.Tree.path_at.Goals as goal

pub slice_bounds-result-count : goal.slice_bounds-result-count
slice_bounds-result-count c = omega (arith, address-long _ _ _ c.address_at.ensures)

pub slice_bounds-result-start : goal.slice_bounds-result-start
slice_bounds-result-start c = omega (arith, address-long _ _ _ c.address_at.ensures)

pub returns : goal.returns
returns c = rest c.address_at.result.now 16 ∙ address-path _ _ _ c.address_at.ensures
