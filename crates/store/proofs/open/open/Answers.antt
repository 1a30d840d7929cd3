-- `open` meets its contract. Assumes nothing.
use Rattle.std.proofs.Common.{rules}
use Prim.Native.Nat.{ℕ, ◌≤◌, ◌-◌}
use mathlib.Core.Path.{◌≡◌, sym, ap, ◌∙◌}
use native.Mathlib.Omega.{arith}
use lib.ListN.{length, take, drop, replicate}
use lib.Seq.{length-take-le}
use Rattle.layout.specs.Buffers.{cleared}
use mathlib.Core.List.{◌++◌}
use Rattle.data_model.specs.Path.{field}
use Rattle.data_model.specs.Refusal.{refusal_number}
use Rattle.tally.specs.Tally.{tally_room}
use Rattle.store.specs.Store.{limit_most, store_of}
use Rattle.store.specs.Open.{empty_state, no_state, OpenSaid, opened_says, open_outcome}
use Rattle.store.proofs.Lifted.{Rooms}
use Rattle.store.proofs.HoldingLaws.{open-refused, open-passed, open_done}
use Rattle.store.proofs.open.open.Goals as goal
use Rattle.store.proofs.open.open.Goals.{In_ok-check_opening, After-from_residual}

answered : (c : After-from_residual) → opened_says c.from_residual.result ≡ record { refusal = refusal_number c.in_err-check_opening.field-0.0; state = no_state }
answered c = search rules

passes : (c : In_ok-check_opening) → (c.args.limit ≤ limit_most) × Rooms field (store_of (empty_state c.args.namespace c.args.limit) c.args.spt.now c.args.spt_dir.now c.args.tsp.now c.args.tsp_dir.now) × (tally_room c.args.limit ≤ length c.args.tally.now)
passes c = open-passed c.args.namespace c.args.limit c.args.spt.now c.args.spt_dir.now c.args.tsp.now c.args.tsp_dir.now c.args.tally.now c.in_ok-check_opening.ensures

pub returns-in_err-check_opening : goal.returns-in_err-check_opening
returns-in_err-check_opening c =
    ap (λ (r : OpenSaid). open_outcome r c.args.spt.now c.args.spt_dir.now c.args.tsp.now c.args.tsp_dir.now c.args.tally.now) (answered c)
    ∙ open-refused c.args.namespace c.args.limit c.args.spt.now c.args.spt_dir.now c.args.tsp.now c.args.tsp_dir.now c.args.tally.now _ c.in_err-check_opening.ensures

pub overflow_mul-n : goal.overflow_mul-n
overflow_mul-n c = let m = (passes (goal.at.overflow_mul-n c).In_ok-check_opening).0 in omega arith

pub overflow_mul-m : goal.overflow_mul-m
overflow_mul-m c = let m = (passes (goal.at.overflow_mul-m c).In_ok-check_opening).0 in omega arith

pub slice_bounds-open-end : goal.slice_bounds-open-end
slice_bounds-open-end c = (passes (goal.at.slice_bounds-open-end c).In_ok-check_opening).1.spt_dir

pub slice_bounds-open-end-2 : goal.slice_bounds-open-end-2
slice_bounds-open-end-2 c = sym (length-take-le _ _ (passes (goal.at.slice_bounds-open-end-2 c).In_ok-check_opening).1.spt_dir)

pub slice_bounds-open-end-3 : goal.slice_bounds-open-end-3
slice_bounds-open-end-3 c = (passes (goal.at.slice_bounds-open-end-3 c).In_ok-check_opening).1.spt

pub slice_bounds-open-end-4 : goal.slice_bounds-open-end-4
slice_bounds-open-end-4 c = sym (length-take-le _ _ (passes (goal.at.slice_bounds-open-end-4 c).In_ok-check_opening).1.spt)

pub slice_bounds-open-end-5 : goal.slice_bounds-open-end-5
slice_bounds-open-end-5 c = (passes (goal.at.slice_bounds-open-end-5 c).In_ok-check_opening).1.tsp_dir

pub slice_bounds-open-end-6 : goal.slice_bounds-open-end-6
slice_bounds-open-end-6 c = sym (length-take-le _ _ (passes (goal.at.slice_bounds-open-end-6 c).In_ok-check_opening).1.tsp_dir)

pub slice_bounds-open-end-7 : goal.slice_bounds-open-end-7
slice_bounds-open-end-7 c = (passes (goal.at.slice_bounds-open-end-7 c).In_ok-check_opening).1.tsp

pub slice_bounds-open-end-8 : goal.slice_bounds-open-end-8
slice_bounds-open-end-8 c = sym (length-take-le _ _ (passes (goal.at.slice_bounds-open-end-8 c).In_ok-check_opening).1.tsp)

pub overflow_mul-limit : goal.overflow_mul-limit
overflow_mul-limit c = let m = (passes (goal.at.overflow_mul-limit c).In_ok-check_opening).0 in omega arith

pub slice_bounds-fill-end : goal.slice_bounds-fill-end
slice_bounds-fill-end c = (passes (goal.at.slice_bounds-fill-end c).In_ok-check_opening).2

pub slice_bounds-fill-end-2 : goal.slice_bounds-fill-end-2
slice_bounds-fill-end-2 c = sym (length-take-le _ c.args.tally.now (passes (goal.at.slice_bounds-fill-end-2 c).In_ok-check_opening).2)

pub returns : goal.returns
unfolding cleared
returns c =
    let o = c.«open» in
    let q = c.open-2 in
    let n = tally_room c.args.limit in
    let m : length (take n c.args.tally.now) ≡ n - 0 = omega (arith, length-take-le n c.args.tally.now (passes (goal.at.returns c).In_ok-check_opening).2) in
    open_done c.args.namespace c.args.limit c.args.spt.now c.args.spt_dir.now c.args.tsp.now c.args.tsp_dir.now c.args.tally.now c.in_ok-check_opening.ensures
    o.new.tree o.new.dir q.new.tree q.new.dir _ o.ensures.bytes o.ensures.numbers q.ensures.bytes q.ensures.numbers
    (ap (◌++ drop n c.args.tally.now) ((c.fill.ensures.after λ y e. e) ∙ ap (λ (k : ℕ). replicate k 0) m))
