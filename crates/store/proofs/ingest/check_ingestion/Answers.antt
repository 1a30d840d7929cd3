-- `check_ingestion` meets its contract: each test is one of the definition's. Assumes nothing.
use Rattle.std.proofs.Common.{rules}
use mathlib.Core.Path.{◌≡◌, sym, ap, ◌∙◌}
use lib.ListN.{length}
use lib.Dec.{leb}
use Rattle.data_model.specs.Path.{field}
use Rattle.data_model.specs.Refusal.{refused_with, refusal_number}
use Rattle.store.specs.Store.{dir_room}
use Rattle.store.specs.Lent.{lent_with}
use Rattle.store.specs.Refusal.{unless, ◌or_else◌, tallied_refusal}
use Rattle.store.specs.Ingest.{ingest_refusal}
use Rattle.laws.proofs.Truth.{not-true, not-false}
use Rattle.store.proofs.CheckLaws.{early}
use Rattle.layout.proofs.CompareLaws.{same-is}
use Rattle.store.proofs.ingest.check_ingestion.Goals as goal
use Rattle.store.proofs.ingest.check_ingestion.Goals.{After-from_residual, In_ok-check_tallied}

answered : (c : After-from_residual) → refused_with c.from_residual.result ≡ refusal_number c.in_err-check_tallied.field-0.0
answered c = search rules

passes : (c : In_ok-check_tallied) → tallied_refusal field (lent_with c.args.store c.args.tally.now) (leb (dir_room c.args.store.state.limit) (length c.args.prune.now)) ≡ 0
passes c = ap (tallied_refusal field (lent_with c.args.store c.args.tally.now)) (sym c.dir_fits.ensures) ∙ sym c.in_ok-check_tallied.ensures

pub returns-in_err-check_tallied : goal.returns-in_err-check_tallied
unfolding ingest_refusal
returns-in_err-check_tallied c = answered c ∙ early _ _ _ (c.in_err-check_tallied.ensures ∙ ap (tallied_refusal field (lent_with c.args.store c.args.tally.now)) c.dir_fits.ensures)

pub returns-then-not-is_legal : goal.returns-then-not-is_legal
unfolding ingest_refusal unless ◌or_else◌
returns-then-not-is_legal c = rw (passes (goal.at.returns-then-not-is_legal c).In_ok-check_tallied, ← c.if-not-is_legal.ensures)

pub returns-then-ne : goal.returns-then-ne
unfolding ingest_refusal unless ◌or_else◌
returns-then-ne c =
    rw (passes (goal.at.returns-then-ne c).In_ok-check_tallied, ← c.if-not-is_legal.ensures, sym (same-is c.args.entry.namespace_id c.args.store.state.namespace_id) ∙ not-true _ (sym c.if-ne.ensures))

pub returns : goal.returns
unfolding ingest_refusal unless ◌or_else◌
returns c =
    rw (passes (goal.at.returns c).In_ok-check_tallied, ← c.if-not-is_legal.ensures, sym (same-is c.args.entry.namespace_id c.args.store.state.namespace_id) ∙ not-false _ (sym c.if-ne.ensures))
