-- `forget_entry` meets its contract: refused, or what is to be forgotten is gone from both trees. Assumes nothing.
use Rattle.std.proofs.Common.{rules}
use mathlib.Core.Path.{◌≡◌, ap, ◌∙◌}
use mathlib.Core.Bool.{true}
use Rattle.std.specs.Prelude.{is_some}
use Rattle.data_model.specs.Path.{field, legal, components}
use Rattle.data_model.specs.Refusal.{refusal_number}
use Rattle.tree.specs.Matching.{stands_at}
use Rattle.store.specs.Store.{Tallied, tallied_of}
use Rattle.store.specs.Refusal.{tallied_refusal}
use Rattle.store.specs.Forget.{EntryForgottenSaid, entry_forgotten_says, forget_entry_outcome, digest_in}
use Rattle.store.proofs.TalliedLaws.{TalliedPassed, tallied-passed, passed-alone}
use Rattle.store.proofs.ForgetLaws.{entry-tested, entry-refused, entry_done, without-asks, without-tallied}
use Rattle.store.proofs.forget.forget_entry.Goals as goal
use Rattle.store.proofs.forget.forget_entry.Goals.{Start, After-from_residual, In_ok-check_entry}

abbrev handed : Start → Tallied
handed c = tallied_of c.args.state c.args.spt.now c.args.spt_dir.now c.args.tsp.now c.args.tsp_dir.now c.args.tally.now

answered : (c : After-from_residual) → entry_forgotten_says c.args.state c.from_residual.result ≡ record { refusal = refusal_number c.in_err-check_entry.field-0.0; state = c.args.state }
answered c = search rules

-- Nothing is refused.
passes : (c : In_ok-check_entry) → (tallied_refusal field (tallied_of c.args.state c.args.spt.now c.args.spt_dir.now c.args.tsp.now c.args.tsp_dir.now c.args.tally.now) true ≡ 0) × (legal field c.args.path ≡ true)
passes c = entry-tested _ c.args.subspace c.args.path (is_some c.args.expected) (digest_in c.args.expected) c.in_ok-check_entry.ensures

known : (c : In_ok-check_entry) → TalliedPassed (tallied_of c.args.state c.args.spt.now c.args.spt_dir.now c.args.tsp.now c.args.tsp_dir.now c.args.tally.now)
known c = (tallied-passed _ true (passes c).0).0

pub returns-in_err-check_entry : goal.returns-in_err-check_entry
returns-in_err-check_entry c =
    ap (λ (r : EntryForgottenSaid). forget_entry_outcome r c.args.spt.now c.args.spt_dir.now c.args.tsp.now c.args.tsp_dir.now c.args.tally.now) (answered c)
    ∙ entry-refused (handed (goal.at.returns-in_err-check_entry c).Start) c.args.subspace c.args.path (is_some c.args.expected) (digest_in c.args.expected) _ c.in_err-check_entry.ensures

pub forget-after-requires : goal.forget-after-requires
forget-after-requires c =
    let a = goal.at.forget-after-requires c in
    (passed-alone (handed a.Start) true (passes a.In_ok-check_entry).0, (passes a.In_ok-check_entry).1)

pub retally-requires : goal.retally-requires
retally-requires c =
    let a = goal.at.retally-requires c in
    let g = c.forget-after in
    without-asks (handed a.Start) (stands_at c.args.subspace (components c.args.path)) (known a.In_ok-check_entry) (λ i. (c.slice_known-1.given i).fits) (λ i. (c.slice_known-3-1.given i).fits)
    g.result g.new.spt g.new.spt_dir g.new.tsp g.new.tsp_dir g.ensures

pub returns : goal.returns
returns c =
    let a = goal.at.returns c in
    let g = c.forget-after in
    let t = c.retally in
    entry_done (handed a.Start) c.args.subspace c.args.path (is_some c.args.expected) (digest_in c.args.expected) c.in_ok-check_entry.ensures
    g.result g.new.spt g.new.spt_dir g.new.tsp g.new.tsp_dir t.new.tally
    (without-tallied (handed a.Start) (stands_at c.args.subspace (components c.args.path)) (known a.In_ok-check_entry) (λ i. (c.slice_known-1.given i).fits) (λ i. (c.slice_known-3-1.given i).fits)
    g.result g.new.spt g.new.spt_dir g.new.tsp g.new.tsp_dir g.ensures t.new.tally t.ensures)
