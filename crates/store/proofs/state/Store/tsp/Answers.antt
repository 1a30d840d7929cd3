-- `tsp` meets its contract: the limit's room is within the buffers. Assumes nothing.
use mathlib.Core.Path.{refl, sym}
use native.Mathlib.Omega.{arith}
use lib.Seq.{length-take-le}
use Rattle.data_model.specs.Path.{field}
use Rattle.store.specs.Store.{tree_of, dir_of}
use Rattle.store.specs.Lent.{lent}
use Rattle.store.proofs.CheckLaws.{limit-most}
use Rattle.store.proofs.Lifted.{Rooms, rooms}
use Rattle.store.proofs.state.Store.tsp.Goals as goal
use Rattle.store.proofs.state.Store.tsp.Goals.{Start}
use Rattle.key_laws.proofs.Fits.{bytes_take}

roomy : (c : Start) → Rooms field (lent c.args.self)
roomy c = rooms field (lent c.args.self) c.requires.1

pub overflow_mul-result : goal.overflow_mul-result
overflow_mul-result c = let m = limit-most _ c.requires.0 in omega arith

pub slice_bounds-result-end : goal.slice_bounds-result-end
slice_bounds-result-end c = sym (length-take-le _ _ (roomy (goal.at.slice_bounds-result-end c).Start).tsp_dir)

pub overflow_mul-result-2 : goal.overflow_mul-result-2
overflow_mul-result-2 c = let m = limit-most _ c.requires.0 in omega arith

pub slice_bounds-result-end-2 : goal.slice_bounds-result-end-2
slice_bounds-result-end-2 c = sym (length-take-le _ _ (roomy (goal.at.slice_bounds-result-end-2 c).Start).tsp)

pub invariant_of-result : goal.invariant_of-result
invariant_of-result c = record { fits = bytes_take _ c.args.self.tsp.now c.args.self.tsp_fits }

pub returns : goal.returns
unfolding tree_of dir_of
returns c = (refl, refl, refl, refl)
