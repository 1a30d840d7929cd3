-- `ingest_answer` meets its contract: each way's answer is the definition's. Assumes nothing.
use Rattle.std.proofs.Common.{rules}
use mathlib.Core.Path.{◌≡◌, refl, sym, ap, ◌∙◌}
use native.Mathlib.Omega.{arith}
use Rattle.std.proofs.Common.{Ok}
use Rattle.layout.specs.Layout.{records}
use Rattle.data_model.specs.Said.{Said, refuses, says}
use Rattle.data_model.specs.Path.{field}
use Rattle.data_model.specs.Refusal.{refusal_number}
use Rattle.data_model.specs.Entry.{entry_of}
use Rattle.tree.specs.Stored.{contents}
use Rattle.store.specs.Store.{Tallied, tree_of, dir_of}
use Rattle.store.specs.Lent.{lent, lent_with}
use Rattle.store.specs.Ingest.{succeeds, ingested_says, plain_answer, place_decided, ingest_refusal}
use Rattle.store.specs.declared.decide.PlaceDecision.{PlaceDecision}
use Rattle.store.proofs.CheckLaws.{cut-asks}
use Rattle.store.proofs.DecideLaws.{shown}
use Rattle.store.proofs.IngestLaws.{Ready, ready, in_spt, ready-ordered, decided-own, marked-own, answers-refused, answers-late, answers-already, answers-old, answers-take, old-bounds, take-fits}
use Rattle.store.proofs.ingest.ingest_answer.Goals as goal
use Rattle.store.proofs.ingest.ingest_answer.Goals.{Start, After-spt-tree, In_ok-check_ingestion, After-from_residual, After-from_residual-in_err-d}

abbrev handed : Start → Tallied
handed c = lent_with c.args.store c.args.tally.now

zero : (c : In_ok-check_ingestion) → ingest_refusal field (lent_with c.args.store c.args.tally.now) c.args.prune.now c.args.ingestion.entry ≡ 0
zero c = sym c.in_ok-check_ingestion.ensures

known : (c : In_ok-check_ingestion) → Ready (lent c.args.store) c.args.prune.now c.args.ingestion.entry
known c = ready (lent_with c.args.store c.args.tally.now) c.args.prune.now c.args.ingestion.entry (zero c)

-- What is decided in the tree cut to its room is decided in the store's.
own : (c : After-spt-tree) → Ready (lent c.args.store) c.args.prune.now c.args.ingestion.entry → (d : Said PlaceDecision)
    → d ≡ place_decided c.args.store.state.limit (contents c.spt-tree.result.order field c.args.ingestion.entry.namespace_id (records c.spt-tree.result.count c.spt-tree.result.dir.now c.spt-tree.result.bytes.now)) (entry_of c.args.ingestion.entry) c.args.ingestion.prevent_pruning
    → d ≡ place_decided c.args.store.state.limit (in_spt (lent c.args.store)) (entry_of c.args.ingestion.entry) c.args.ingestion.prevent_pruning
unfolding tree_of dir_of
own c v d e =
    let i = c.args.ingestion in
    let t = c.spt-tree.ensures in
    decided-own (lent c.args.store) c.args.prune.now i.entry i.prevent_pruning v d (e ∙ rw (t.0, t.1, t.2, t.3) refl)

told : (c : After-from_residual) → ingested_says c.args.store.state c.from_residual.result ≡ plain_answer (refuses (refusal_number c.in_err-check_ingestion.field-0.0)) c.args.store.state
told c = search rules

told-late : (c : After-from_residual-in_err-d) → ingested_says c.args.store.state c.from_residual-in_err-d.result ≡ plain_answer (refuses (refusal_number c.in_err-d.field-0.0)) c.args.store.state
told-late c = search rules

pub returns-in_err-check_ingestion-clause-answer : goal.returns-in_err-check_ingestion-clause-answer
returns-in_err-check_ingestion-clause-answer c = answers-refused (handed (goal.at.returns-in_err-check_ingestion-clause-answer c).Start) c.args.prune.now c.args.ingestion _ c.in_err-check_ingestion.ensures _ (told c)

pub spt-tree-requires : goal.spt-tree-requires
spt-tree-requires c = cut-asks (lent c.args.store) (known (goal.at.spt-tree-requires c).In_ok-check_ingestion).passes

pub decide-requires : goal.decide-requires
unfolding tree_of dir_of
decide-requires c =
    let v = known (goal.at.decide-requires c).In_ok-check_ingestion in
    let m = v.passes.most in
    let f = v.passes.few in
    let t = c.spt-tree.ensures in
    rw (t.0, t.1, t.2, t.3) (ready-ordered (lent c.args.store) c.args.prune.now c.args.ingestion.entry v, omega arith, v.legal_path, omega (arith, c.requires))

pub returns-in_err-d-clause-answer : goal.returns-in_err-d-clause-answer
returns-in_err-d-clause-answer c =
    let a = goal.at.returns-in_err-d-clause-answer c in
    let z = zero a.In_ok-check_ingestion in
    let e = own a.After-spt-tree (known a.In_ok-check_ingestion) _ c.in_err-d.ensures.decision in
    answers-late (handed a.Start) c.args.prune.now c.args.ingestion z _ e _ refl _ (told-late c)

pub stored_at-a-requires : goal.stored_at-a-requires
unfolding tree_of dir_of
stored_at-a-requires c =
    let a = goal.at.stored_at-a-requires c in
    let z = zero a.In_ok-check_ingestion in
    let e = own a.After-spt-tree (known a.In_ok-check_ingestion) _ c.in_ok-d.ensures.decision in
    let t = c.spt-tree.ensures in
    rw (t.2, t.3) (old-bounds (handed a.Start) c.args.prune.now c.args.ingestion z _ e _ (ap says c.in-Old.is))

pub overflow_sub-state : goal.overflow_sub-state
overflow_sub-state c =
    let a = goal.at.overflow_sub-state c in
    let z = zero a.In_ok-check_ingestion in
    let e = own a.After-spt-tree (known a.In_ok-check_ingestion) _ c.in_ok-d.ensures.decision in
    (take-fits (handed a.Start) c.args.prune.now c.args.ingestion z _ e _ (ap says c.in-Take.is)).0

pub overflow_add-state : goal.overflow_add-state
overflow_add-state c =
    let v = known (goal.at.overflow_add-state c).In_ok-check_ingestion in
    let m = v.passes.most in
    let f = v.passes.few in
    omega arith

pub returns-in-Old-clause-answer : goal.returns-in-Old-clause-answer
unfolding tree_of dir_of
returns-in-Old-clause-answer c =
    let a = goal.at.returns-in-Old-clause-answer c in
    let z = zero a.In_ok-check_ingestion in
    let e = own a.After-spt-tree (known a.In_ok-check_ingestion) _ c.in_ok-d.ensures.decision in
    let t = c.spt-tree.ensures in
    answers-old (handed a.Start) c.args.prune.now c.args.ingestion z _ e _ (ap says c.in-Old.is) _
    (shown c.args.store.state _ c.stored_at-a.result c.stored_at-a.ensures.value
    ∙ rw (t.0, t.2, t.3) refl)

pub returns-in-Already-clause-answer : goal.returns-in-Already-clause-answer
returns-in-Already-clause-answer c =
    let a = goal.at.returns-in-Already-clause-answer c in
    let z = zero a.In_ok-check_ingestion in
    let e = own a.After-spt-tree (known a.In_ok-check_ingestion) _ c.in_ok-d.ensures.decision in
    answers-already (handed a.Start) c.args.prune.now c.args.ingestion z _ e (ap says c.in-Already.is) _ refl

pub returns-in-Take-clause-answer : goal.returns-in-Take-clause-answer
returns-in-Take-clause-answer c =
    let a = goal.at.returns-in-Take-clause-answer c in
    let z = zero a.In_ok-check_ingestion in
    let e = own a.After-spt-tree (known a.In_ok-check_ingestion) _ c.in_ok-d.ensures.decision in
    answers-take (handed a.Start) c.args.prune.now c.args.ingestion z _ e _ (ap says c.in-Take.is) _ (ap (plain_answer (says (succeeds c.in-Take.pruned))) c.with_count.ensures)

pub returns-in-Take-clause-marks : goal.returns-in-Take-clause-marks
unfolding tree_of dir_of
returns-in-Take-clause-marks c = λ n q.
    let a = goal.at.returns-in-Take-clause-marks c in
    let e = c.args.ingestion.entry in
    let m = c.decide.ensures.marks c.in-Take.pruned (c.in_ok-d.was ∙ ap Ok c.in-Take.is) in
    marked-own (lent c.args.store) c.args.prune.now e (known a.In_ok-check_ingestion) _
    (let t = c.spt-tree.ensures in rw (t.0, t.1, t.2, t.3) at m)
