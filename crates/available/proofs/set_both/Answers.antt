-- `set_both` meets its contract: both trees are written over in their rooms. Assumes nothing.
use mathlib.Core.Path.{sym}
use mathlib.Core.Bool.{true}
use native.Mathlib.Omega.{arith}
use lib.Seq.{length-take-le}
use Rattle.data_model.specs.Path.{components}
use Rattle.key_laws.specs.Bytes.{Bytes}
use Rattle.tree.specs.declared.stored.KeyOrder.TheVariants.{Tsp}
use Rattle.store.specs.Store.{store_of, tree_of, dir_of, held}
use Rattle.store.proofs.CheckLaws.{Passed, passed}
use Rattle.available.proofs.RefusalLaws.{once-there, spt-inside, spt-arrived, both-arrived}
use Rattle.available.proofs.set_both.Goals as goal
use Rattle.available.proofs.set_both.Goals.{Start}

known : (c : Start) → Passed (store_of c.args.state c.args.spt.now c.args.spt_dir.now c.args.tsp.now c.args.tsp_dir.now)
known c = (passed (store_of c.args.state c.args.spt.now c.args.spt_dir.now c.args.tsp.now c.args.tsp_dir.now) true c.requires.0).0

pub overflow_mul-t : goal.overflow_mul-t
overflow_mul-t c = let m = (known (goal.at.overflow_mul-t c).Start).most in omega arith

pub overflow_mul-d : goal.overflow_mul-d
overflow_mul-d c = let m = (known (goal.at.overflow_mul-d c).Start).most in omega arith

pub slice_bounds-set_available-end : goal.slice_bounds-set_available-end
slice_bounds-set_available-end c = sym (length-take-le _ _ (known (goal.at.slice_bounds-set_available-end c).Start).room.spt_dir)

pub slice_bounds-set_available-end-2 : goal.slice_bounds-set_available-end-2
slice_bounds-set_available-end-2 c = (known (goal.at.slice_bounds-set_available-end-2 c).Start).room.spt

pub slice_bounds-set_available-end-3 : goal.slice_bounds-set_available-end-3
slice_bounds-set_available-end-3 c = sym (length-take-le _ _ (known (goal.at.slice_bounds-set_available-end-3 c).Start).room.spt)

pub set_available-requires : goal.set_available-requires
unfolding tree_of dir_of
set_available-requires c =
    let s : Bytes c.args.spt.now = λ i. (c.slice_known-1.given i).fits in
    let t : Bytes c.args.tsp.now = λ i. (c.slice_known-2-1.given i).fits in
    spt-inside (store_of c.args.state c.args.spt.now c.args.spt_dir.now c.args.tsp.now c.args.tsp_dir.now) (known (goal.at.set_available-requires c).Start) s t c.args.subspace (components c.args.path) c.args.n c.args.place c.requires.2

pub slice_bounds-set_in_tsp-end : goal.slice_bounds-set_in_tsp-end
slice_bounds-set_in_tsp-end c = (known (goal.at.slice_bounds-set_in_tsp-end c).Start).room.tsp

pub slice_bounds-set_in_tsp-end-2 : goal.slice_bounds-set_in_tsp-end-2
slice_bounds-set_in_tsp-end-2 c = sym (length-take-le _ _ (known (goal.at.slice_bounds-set_in_tsp-end-2 c).Start).room.tsp)

pub slice_bounds-set_in_tsp-end-3 : goal.slice_bounds-set_in_tsp-end-3
slice_bounds-set_in_tsp-end-3 c = sym (length-take-le _ _ (known (goal.at.slice_bounds-set_in_tsp-end-3 c).Start).room.tsp_dir)

pub set_in_tsp-requires : goal.set_in_tsp-requires
unfolding tree_of dir_of
set_in_tsp-requires c = let m = (known (goal.at.set_in_tsp-requires c).Start).most in let k = (known (goal.at.set_in_tsp-requires c).Start).few in ((known (goal.at.set_in_tsp-requires c).Start).whole Tsp, omega arith, c.requires.1)

pub returns : goal.returns
unfolding tree_of dir_of held
returns c =
    let s : Bytes c.args.spt.now = λ i. (c.slice_known-1.given i).fits in
    let t : Bytes c.args.tsp.now = λ i. (c.slice_known-2-1.given i).fits in
    both-arrived (store_of c.args.state c.args.spt.now c.args.spt_dir.now c.args.tsp.now c.args.tsp_dir.now) (known (goal.at.returns c).Start) s t c.args.subspace (components c.args.path) c.args.n _ _
    (spt-arrived (store_of c.args.state c.args.spt.now c.args.spt_dir.now c.args.tsp.now c.args.tsp_dir.now) (known (goal.at.returns c).Start) s t c.args.subspace (components c.args.path) c.args.n c.args.place c.requires.2 _ c.set_available.ensures)
    (c.set_in_tsp.ensures c.args.state.namespace_id (once-there (store_of c.args.state c.args.spt.now c.args.spt_dir.now c.args.tsp.now c.args.tsp_dir.now) (known (goal.at.returns c).Start) s t c.args.subspace (components c.args.path) c.args.n Tsp))
