-- `ingest_entry_numbers` meets its contract: filed if the answer is a success, else nothing is changed. Assumes nothing.
use Rattle.std.proofs.Common.{rules, Ok}
use Prim.Native.Nat.{ℕ}
use mathlib.Core.Path.{◌≡◌, refl, sym, ap, ◌∙◌}
use native.Mathlib.Omega.{arith}
use lib.ListN.{length-replicate}
use Rattle.data_model.specs.Said.{refuses, says}
use Rattle.data_model.specs.Path.{field}
use Rattle.data_model.specs.Refusal.{refusal_number}
use Rattle.store.specs.Store.{limit_most, Tallied, tallied_of}
use Rattle.store.specs.Ingest.{succeeds, IngestSaid, verdict_says, ingested_says, plain_answer, ingest_outcome, ingested}
use Rattle.store.specs.declared.state.State.{State}
use Rattle.store.specs.declared.ingest.Ingested.{Ingested}
use Rattle.store.specs.declared.ingest.Ingested.TheVariants.{Success, Obsolete, Held}
use Rattle.store.proofs.FileLaws.{success-may, filed-asks, filed-tallied, outcome-filed, outcome-same}
use Rattle.store.proofs.ingest.ingest_entry_numbers.Goals as goal
use Rattle.store.proofs.ingest.ingest_entry_numbers.Goals.{Start, After-from_residual, In-Success}

abbrev handed : Start → Tallied
handed c = tallied_of c.args.state c.args.spt.now c.args.spt_dir.now c.args.tsp.now c.args.tsp_dir.now c.args.tally.now

told : (c : After-from_residual) → ingested_says c.args.state c.from_residual.result ≡ plain_answer (refuses (refusal_number c.in_err-given.field-0.0)) c.args.state
told c = search rules

-- A refusal, an obsolete and a held answer are not that of a success.
other : (s : State) (i : Ingested) → ((t : State) (m : ℕ) → i ≡ Success t m → ⊥) → (n : ℕ) → (ingested_says s (Ok i)).verdict ≡ says (succeeds n) → ⊥
other s (Success t m) k n q = k t m refl
other s (Obsolete e t) k n q = let z : ◌≡◌ {A = ℕ} 0 1 = cc in omega arith
other s Held k n q = let z : ◌≡◌ {A = ℕ} 0 1 = cc in omega arith

-- The answer of a success.
success : (c : In-Success) → plain_answer (says (succeeds c.in-Success.pruned)) c.in-Success.after
    ≡ (ingested field (tallied_of c.args.state c.args.spt.now c.args.spt_dir.now c.args.tsp.now c.args.tsp_dir.now c.args.tally.now) c.args.prune.now c.args.ingestion).answer
success c = sym (ap (λ (i : Ingested). ingested_says c.args.state (Ok i)) c.in-Success.is) ∙ c.in_ok-given.ensures.answer

pub returns-in_err-given : goal.returns-in_err-given
returns-in_err-given c =
    let w = handed (goal.at.returns-in_err-given c).Start in
    ap (λ (r : IngestSaid). ingest_outcome r c.args.spt.now c.args.spt_dir.now c.args.tsp.now c.args.tsp_dir.now c.args.tally.now c.args.prune.now) (told c)
    ∙ outcome-same w c.args.prune.now c.args.ingestion _ c.in_err-given.ensures.answer λ n q. let z : ◌≡◌ {A = ℕ} 0 1 = cc in omega arith

pub file-requires : goal.file-requires
file-requires c =
    let a = goal.at.file-requires c in
    (success-may (handed a.Start) c.args.prune.now c.args.ingestion _ (success a.In-Success) _ refl, c.ingest_answer.ensures.marks c.in-Success.pruned (ap verdict_says c.in_ok-given.was ∙ ap (λ (i : Ingested). verdict_says (Ok i)) c.in-Success.is), omega (arith, c.ingest_answer.auto.removed, length-replicate {A = ℕ} limit_most 0))

pub retally-requires : goal.retally-requires
retally-requires c =
    let a = goal.at.retally-requires c in
    let f = c.file in
    filed-asks (handed a.Start) c.args.prune.now c.args.ingestion _ (success a.In-Success) _ refl f.ensures.lawful
    (λ i. (c.slice_known-1.given i).fits) (λ i. (c.slice_known-3-1.given i).fits)
    f.new.spt f.new.spt_dir f.new.tsp f.new.tsp_dir f.ensures.store

pub returns-in-Success : goal.returns-in-Success
returns-in-Success c =
    let a = goal.at.returns-in-Success c in
    let f = c.file in
    let t = c.retally in
    outcome-filed (handed a.Start) c.args.prune.now c.args.ingestion _ (success a.In-Success) _ refl
    f.new.spt f.new.spt_dir f.new.tsp f.new.tsp_dir t.new.tally f.new.prune
    (filed-tallied (handed a.Start) c.args.prune.now c.args.ingestion _ (success a.In-Success) _ refl f.ensures.lawful
    (λ i. (c.slice_known-1.given i).fits) (λ i. (c.slice_known-3-1.given i).fits)
    f.new.spt f.new.spt_dir f.new.tsp f.new.tsp_dir f.ensures.store t.new.tally t.ensures)
    f.ensures.pairs

pub returns-in_default : goal.returns-in_default
returns-in_default c =
    outcome-same (handed (goal.at.returns-in_default c).Start) c.args.prune.now c.args.ingestion _ c.in_ok-given.ensures.answer (other c.args.state c.in_ok-given.given c.in_default.not-Success)
