-- What our calls answer and leave, by the definitions that the contracts cite, and what is right of it: demand 1, of each call on any store, well-formed or not.
use Rattle.std.specs.Prelude.{ℕ, ◌≡◌, List, [], true, length, replicate}
use Rattle.laws.specs.Lists.{put}
use Rattle.laws.specs.Sorted.{◌∈◌, keep}
use Rattle.data_model.specs.Path.{Figures}
use Rattle.data_model.specs.Entry.{entry_of, prunes, no_entry}
use Rattle.tree.specs.Stored.{Stored, lengthy}
use Rattle.tree.specs.declared.stored.KeyOrder.{KeyOrder}
use Rattle.tree.specs.declared.stored.KeyOrder.TheVariants.{Spt}
use Rattle.tally.specs.Tally.{tally_room}
use Rattle.store.specs.Store.{Store, tree_room, dir_room, held, Tallied, tallied_of, Lent}
use Rattle.store.specs.Open.{opening, no_state}
use Rattle.store.specs.Ingest.{IngestOutcome, ingested, pruned_pairs}
use Rattle.store.specs.Forget.{entry_forgotten, area_forgotten}
use Rattle.store.specs.declared.state.State.{State}
use Rattle.pairs.specs.Pairs.{pruned_count}
use Rattle.available.specs.Available.{available_set}
use Rattle.call_laws.specs.Calls.{Opening, IngestCall, Call, Recording, ingest, forget_entry, forget_area, record_available, forget_payload, nothing_at, counted, Verdict, obsolete, done, ingest_verdict, number_verdict}
use Rattle.call_laws.specs.Checks.{WellFormedStore, TallyRight, VerdictRight, OpeningVerdictRight}

-- The verdict, the number in the answer (0 if it has none), and the store that is left: its state is the one that is answered.
pub record Outcome (S : Type 0) : Type 0 where
  pub verdict : Verdict
  pub number : ℕ
  pub left : S

-- A recording is lent no tally: it stays.
abbrev pub recording_outcome : Figures → Tallied → Recording → Outcome Tallied
recording_outcome f w r =
    let p = r.target in
    let o = available_set f w.store p.subspace p.path p.expects p.digest r.available in
    record { verdict = number_verdict o.answer.refusal; number = 0; left = record { store = o.left; tally = w.tally } }

-- Ours: what is answered and left on a store with its tally, and by an opening.
unfoldable pub outcome : Figures → Tallied → Call → Outcome Tallied
outcome f w (ingest i) = let r = ingested f w i.prune i.handed in record { verdict = ingest_verdict r.answer.verdict; number = pruned_count r.answer.verdict; left = r.left }
outcome f w (forget_entry p) = let r = entry_forgotten f w p.subspace p.path p.expects p.digest in record { verdict = number_verdict r.answer.refusal; number = 0; left = r.left }
outcome f w (forget_area a) = let r = area_forgotten f w a.area a.protects a.protected in record { verdict = number_verdict r.answer.refusal; number = r.answer.forgotten; left = r.left }
outcome f w (record_available r) = recording_outcome f w r
outcome f w (forget_payload p) = recording_outcome f w (nothing_at p)

unfoldable pub opens : Figures → Opening → Outcome Tallied
opens f o = let r = opening f o.namespace o.limit o.spt o.spt_dir o.tsp o.tsp_dir o.tally in record { verdict = number_verdict r.answer.refusal; number = 0; left = r.left }

-- What a call answered and left: a verdict and a number, with the state in the answer and the buffers as they then are. What an opening is handed.
abbrev pub outcome_of : Verdict → ℕ → State → (spt spt_dir tsp tsp_dir tally : List ℕ) → Outcome Tallied
outcome_of v n s spt spt_dir tsp tsp_dir tally = record { verdict = v; number = n; left = tallied_of s spt spt_dir tsp tsp_dir tally }

abbrev pub opening_of : (namespace : List ℕ) → (limit : ℕ) → (spt spt_dir tsp tsp_dir tally : List ℕ) → Opening
opening_of namespace limit spt spt_dir tsp tsp_dir tally = record { namespace = namespace; limit = limit; spt = spt; spt_dir = spt_dir; tsp = tsp; tsp_dir = tsp_dir; tally = tally }

-- Each call on any store: the verdict is right. Done, the number counts what it says it counts. Not done, the store and its tally are those that were handed in,
-- and the number is 0.
pub record CallRight (f : Figures) (w : Tallied) (c : Call) (r : Outcome Tallied) : Type 0 where
  pub verdict : VerdictRight f w c r.verdict
  pub number : r.verdict ≡ done → r.number ≡ length (keep (counted c) (held f Spt w.store))
  pub unchanged : (r.verdict ≡ done → ⊥) → (r.left ≡ w) × (r.number ≡ 0)

-- A store keeps what it was opened with: namespace, limit, the length of each buffer, its tally's too, and what stands in it beyond the limit's room.
pub record Keeps (f : Figures) (o : Opening) (w : Tallied) : Type 0 where
  pub namespace : w.store.state.namespace_id ≡ o.namespace
  pub limit : w.store.state.limit ≡ o.limit
  pub spt : Lent (tree_room f o.limit) o.spt w.store.spt
  pub spt_dir : Lent (dir_room o.limit) o.spt_dir w.store.spt_dir
  pub tsp : Lent (tree_room f o.limit) o.tsp w.store.tsp
  pub tsp_dir : Lent (dir_room o.limit) o.tsp_dir w.store.tsp_dir
  pub tally : Lent (tally_room o.limit) o.tally w.tally

-- A sound store: well-formed, and its tally is the one that it gives.
pub record Sound (f : Figures) (w : Tallied) : Type 0 where
  pub well-formed : WellFormedStore f w.store
  pub tallied : TallyRight f w

-- Each opening: the verdict is right. Done, the store holds nothing, is sound and keeps what it was opened with. Refused, every byte of the buffers is as
-- before and the state is all 0.
pub record OpeningRight (f : Figures) (o : Opening) (r : Outcome Tallied) : Type 0 where
  pub verdict : OpeningVerdictRight f o r.verdict
  pub unchanged : (r.verdict ≡ done → ⊥) → r.left ≡ tallied_of no_state o.spt o.spt_dir o.tsp o.tsp_dir o.tally
  pub empty : r.verdict ≡ done → (k : KeyOrder) → held f k r.left.store ≡ []
  pub sound : r.verdict ≡ done → Sound f r.left
  pub keeps : r.verdict ≡ done → Keeps f o r.left

-- What else an ingestion answers. Done: the pairs of what it removes stand in the prune list, which nothing else writes to. Obsolete: a stored entry that is
-- newer, of the subspace, at a prefix of the path or the path itself. Zeros where none is shown.
pub record AnswerRight (f : Figures) (s : Store) (i : IngestCall) (r : IngestOutcome) : Type 0 where
  pub pairs : ingest_verdict r.answer.verdict ≡ done → r.prune ≡ put (pruned_pairs f s (entry_of i.handed.entry)) i.prune
  pub unwritten : (ingest_verdict r.answer.verdict ≡ done → ⊥) → r.prune ≡ i.prune
  pub shown : ingest_verdict r.answer.verdict ≡ obsolete
      → (x : Stored) × x ∈ held f Spt s × (prunes x.entry (entry_of i.handed.entry) ≡ true) × (r.answer.newer ≡ (lengthy x).entry) × (r.answer.token ≡ x.token)
  pub none_shown : (ingest_verdict r.answer.verdict ≡ obsolete → ⊥) → (r.answer.newer ≡ no_entry) × (r.answer.token ≡ replicate 64 0)
