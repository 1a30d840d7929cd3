-- `forget_area` meets its contract: refused, or what is to be forgotten is gone from both trees. Assumes nothing.
use Rattle.std.proofs.Common.{rules}
use mathlib.Core.Path.{◌≡◌, ap, ◌∙◌}
use mathlib.Core.Bool.{true, cond}
use Rattle.std.specs.Prelude.{is_some, unwrap_or}
use Rattle.data_model.specs.Path.{field, legal}
use Rattle.data_model.specs.Refusal.{refusal_number}
use Rattle.tree.specs.Matching.{is_forgotten}
use Rattle.store.specs.Store.{Tallied, tallied_of}
use Rattle.store.specs.Refusal.{tallied_refusal}
use Rattle.store.specs.Forget.{AreaForgottenSaid, area_forgotten_says, forget_area_outcome}
use Rattle.store.proofs.TalliedLaws.{TalliedPassed, tallied-passed, passed-alone}
use Rattle.store.proofs.ForgetLaws.{area-tested, area-refused, area-left, area-done, kept-legal, without-asks, without-tallied}
use Rattle.store.proofs.forget.forget_area.Goals as goal
use Rattle.store.proofs.forget.forget_area.Goals.{Start, After-from_residual, In_ok-check_area}

abbrev handed : Start → Tallied
handed c = tallied_of c.args.state c.args.spt.now c.args.spt_dir.now c.args.tsp.now c.args.tsp_dir.now c.args.tally.now

answered : (c : After-from_residual) → area_forgotten_says c.args.state c.from_residual.result ≡ record { refusal = refusal_number c.in_err-check_area.field-0.0; state = c.args.state; forgotten = 0 }
answered c = search rules

-- Nothing is refused.
passes : (c : In_ok-check_area) → (tallied_refusal field (tallied_of c.args.state c.args.spt.now c.args.spt_dir.now c.args.tsp.now c.args.tsp_dir.now c.args.tally.now) true ≡ 0) × (legal field c.args.area.path ≡ true) × (cond (is_some c.args.protected) (legal field (unwrap_or c.args.protected c.args.area).path) true ≡ true)
passes c = area-tested _ c.args.area (is_some c.args.protected) (unwrap_or c.args.protected c.args.area) c.in_ok-check_area.ensures

known : (c : In_ok-check_area) → TalliedPassed (tallied_of c.args.state c.args.spt.now c.args.spt_dir.now c.args.tsp.now c.args.tsp_dir.now c.args.tally.now)
known c = (tallied-passed _ true (passes c).0).0

pub returns-in_err-check_area : goal.returns-in_err-check_area
returns-in_err-check_area c =
    ap (λ (r : AreaForgottenSaid). forget_area_outcome r c.args.spt.now c.args.spt_dir.now c.args.tsp.now c.args.tsp_dir.now c.args.tally.now) (answered c)
    ∙ area-refused (handed (goal.at.returns-in_err-check_area c).Start) c.args.area (is_some c.args.protected) (unwrap_or c.args.protected c.args.area) _ c.in_err-check_area.ensures

pub forget-after-requires : goal.forget-after-requires
forget-after-requires c =
    let a = goal.at.forget-after-requires c in
    (passed-alone (handed a.Start) true (passes a.In_ok-check_area).0, ((passes a.In_ok-check_area).1, kept-legal c.args.area c.args.protected (passes a.In_ok-check_area).1 (passes a.In_ok-check_area).2))

pub retally-requires : goal.retally-requires
retally-requires c =
    let a = goal.at.retally-requires c in
    let g = c.forget-after in
    without-asks (handed a.Start) (is_forgotten c.args.area (is_some c.args.protected) (unwrap_or c.args.protected c.args.area)) (known a.In_ok-check_area) (λ i. (c.slice_known-1.given i).fits) (λ i. (c.slice_known-3-1.given i).fits)
    g.result g.new.spt g.new.spt_dir g.new.tsp g.new.tsp_dir g.ensures

pub overflow_sub-result : goal.overflow_sub-result
overflow_sub-result c =
    area-left (handed (goal.at.overflow_sub-result c).Start) c.args.area (is_some c.args.protected) (unwrap_or c.args.protected c.args.area) c.in_ok-check_area.ensures _ _ _ _ _ c.forget-after.ensures

pub returns : goal.returns
returns c =
    let a = goal.at.returns c in
    let g = c.forget-after in
    let t = c.retally in
    area-done (handed a.Start) c.args.area (is_some c.args.protected) (unwrap_or c.args.protected c.args.area) c.in_ok-check_area.ensures
    g.result g.new.spt g.new.spt_dir g.new.tsp g.new.tsp_dir g.ensures t.new.tally
    (without-tallied (handed a.Start) (is_forgotten c.args.area (is_some c.args.protected) (unwrap_or c.args.protected c.args.area)) (known a.In_ok-check_area) (λ i. (c.slice_known-1.given i).fits) (λ i. (c.slice_known-3-1.given i).fits)
    g.result g.new.spt g.new.spt_dir g.new.tsp g.new.tsp_dir g.ensures t.new.tally t.ensures)
