-- `record_available_length` meets its contract: refused, or recorded in both trees. Assumes nothing.
use Rattle.std.proofs.Common.{rules}
use mathlib.Core.Path.{◌≡◌, ap, ◌∙◌}
use Rattle.std.specs.Prelude.{is_some}
use Rattle.data_model.specs.Refusal.{refusal_number}
use Rattle.store.specs.Store.{Store, store_of}
use Rattle.store.specs.Forget.{digest_in}
use Rattle.available.specs.Available.{AvailableSaid, available_says, available_outcome}
use Rattle.available.proofs.RefusalLaws.{available-refused, available-tested, available-done}
use Rattle.available.proofs.record_available_length.Goals as goal
use Rattle.available.proofs.record_available_length.Goals.{Start, After-from_residual}

abbrev handed : Start → Store
handed c = store_of c.args.state c.args.spt.now c.args.spt_dir.now c.args.tsp.now c.args.tsp_dir.now

told : (c : After-from_residual) → available_says c.args.state c.from_residual.result ≡ record { refusal = refusal_number c.in_err-place.field-0.0; state = c.args.state }
told c = search rules

pub returns-in_err-place : goal.returns-in_err-place
returns-in_err-place c =
    ap (λ (r : AvailableSaid). available_outcome r c.args.spt.now c.args.spt_dir.now c.args.tsp.now c.args.tsp_dir.now) (told c)
    ∙ available-refused (handed (goal.at.returns-in_err-place c).Start) c.args.subspace c.args.path (is_some c.args.expected) (digest_in c.args.expected) c.args.available _ c.in_err-place.ensures.refusal_value

pub set_both-requires : goal.set_both-requires
set_both-requires c =
    let t = available-tested (handed (goal.at.set_both-requires c).Start) c.args.subspace c.args.path (is_some c.args.expected) (digest_in c.args.expected) c.args.available c.in_ok-place.ensures.refusal_value in
    (t.0, t.1, c.available_place.ensures.stands_first _ c.in_ok-place.was)

pub returns : goal.returns
returns c =
    available-done (handed (goal.at.returns c).Start) c.args.subspace c.args.path (is_some c.args.expected) (digest_in c.args.expected) c.args.available c.in_ok-place.ensures.refusal_value
    _ _ _ _ c.set_both.ensures
