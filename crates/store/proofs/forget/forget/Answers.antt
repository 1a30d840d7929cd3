-- `forget` meets its contract: both trees are changed in their rooms. Assumes nothing.
use mathlib.Core.Path.{sym}
use native.Mathlib.Omega.{arith}
use lib.Seq.{length-take-le}
use mathlib.Core.Bool.{true}
use Rattle.tree.specs.declared.stored.KeyOrder.TheVariants.{Spt, Tsp}
use Rattle.store.specs.Store.{store_of, tree_of, dir_of}
use Rattle.store.specs.Change.{forgets}
use Rattle.store.proofs.CheckLaws.{Passed, passed}
use Rattle.store.proofs.ForgetLaws.{left-without}
use Rattle.store.proofs.forget.forget.Goals as goal
use Rattle.store.proofs.forget.forget.Goals.{Start}

known : (c : Start) → Passed (store_of c.args.state c.args.spt.now c.args.spt_dir.now c.args.tsp.now c.args.tsp_dir.now)
known c = (passed (store_of c.args.state c.args.spt.now c.args.spt_dir.now c.args.tsp.now c.args.tsp_dir.now) true c.requires.0).0

pub overflow_mul-t : goal.overflow_mul-t
overflow_mul-t c = let m = (known (goal.at.overflow_mul-t c).Start).most in omega arith

pub overflow_mul-d : goal.overflow_mul-d
overflow_mul-d c = let m = (known (goal.at.overflow_mul-d c).Start).most in omega arith

pub slice_bounds-take_out-end : goal.slice_bounds-take_out-end
slice_bounds-take_out-end c = (known (goal.at.slice_bounds-take_out-end c).Start).room.spt

pub slice_bounds-take_out-end-2 : goal.slice_bounds-take_out-end-2
slice_bounds-take_out-end-2 c = sym (length-take-le _ _ (known (goal.at.slice_bounds-take_out-end-2 c).Start).room.spt)

pub slice_bounds-take_out-end-3 : goal.slice_bounds-take_out-end-3
slice_bounds-take_out-end-3 c = (known (goal.at.slice_bounds-take_out-end-3 c).Start).room.spt_dir

pub slice_bounds-take_out-end-4 : goal.slice_bounds-take_out-end-4
slice_bounds-take_out-end-4 c = sym (length-take-le _ _ (known (goal.at.slice_bounds-take_out-end-4 c).Start).room.spt_dir)

pub take_out-left-requires : goal.take_out-left-requires
unfolding tree_of dir_of
take_out-left-requires c =
    let m = (known (goal.at.take_out-left-requires c).Start).most in
    let k = (known (goal.at.take_out-left-requires c).Start).few in
    ((known (goal.at.take_out-left-requires c).Start).whole Spt, omega arith, c.requires.1)

pub slice_bounds-take_out-end-5 : goal.slice_bounds-take_out-end-5
slice_bounds-take_out-end-5 c = (known (goal.at.slice_bounds-take_out-end-5 c).Start).room.tsp

pub slice_bounds-take_out-end-6 : goal.slice_bounds-take_out-end-6
slice_bounds-take_out-end-6 c = sym (length-take-le _ _ (known (goal.at.slice_bounds-take_out-end-6 c).Start).room.tsp)

pub slice_bounds-take_out-end-7 : goal.slice_bounds-take_out-end-7
slice_bounds-take_out-end-7 c = (known (goal.at.slice_bounds-take_out-end-7 c).Start).room.tsp_dir

pub slice_bounds-take_out-end-8 : goal.slice_bounds-take_out-end-8
slice_bounds-take_out-end-8 c = sym (length-take-le _ _ (known (goal.at.slice_bounds-take_out-end-8 c).Start).room.tsp_dir)

pub take_out-requires : goal.take_out-requires
unfolding tree_of dir_of
take_out-requires c =
    let m = (known (goal.at.take_out-requires c).Start).most in
    let k = (known (goal.at.take_out-requires c).Start).few in
    ((known (goal.at.take_out-requires c).Start).whole Tsp, omega arith, c.requires.1)

pub returns : goal.returns
returns c =
    let a = c.take_out-left in
    let b = c.take_out in
    left-without (store_of c.args.state c.args.spt.now c.args.spt_dir.now c.args.tsp.now c.args.tsp_dir.now) (forgets c.args.what) (known (goal.at.returns c).Start) a.result b.result _ c.with_count.ensures a.new.tree a.new.dir b.new.tree b.new.dir (a.ensures c.args.state.namespace_id) (b.ensures c.args.state.namespace_id)
