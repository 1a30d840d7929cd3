-- 02, U2: a stored entry that comes again; and which of the verdicts never meet, so that their order does not matter.
use Rattle.std.specs.Prelude.{◌≡◌, false}
use Rattle.laws.specs.Sorted.{◌∈◌}
use Rattle.data_model.specs.Said.{says}
use Rattle.data_model.specs.Path.{Figures}
use Rattle.data_model.specs.Entry.{Entry, entry_of, prunes}
use Rattle.tree.specs.Stored.{Stored}
use Rattle.tree.specs.declared.stored.KeyOrder.TheVariants.{Spt}
use Rattle.store.specs.Store.{Store, held, Tallied}
use Rattle.store.specs.Ingest.{is-held, plain_answer, ingest_refusal, ingested}
use Rattle.call_laws.specs.Calls.{IngestCall}
use Rattle.call_laws.specs.Checks.{Outdated, AlreadyStored, Removes}

-- None that is stored prunes another, as `apart` of a well-formed store says.
abbrev pub NonePrunes : Figures → Store → Type 0
NonePrunes f s = (x y : Stored) → x ∈ held f Spt s → y ∈ held f Spt s → prunes x.entry y.entry ≡ false

-- Then no entry is both stored already and outdated: so it does not matter whether held or obsolete is looked for first. Theorem `held-not-obsolete`.
abbrev pub HeldNotObsolete : Figures → Store → Type 0
HeldNotObsolete f s = NonePrunes f s → (e : Entry) → AlreadyStored f s e → Outdated f s e → ⊥

-- Nor is an entry both outdated and one that would remove another: so it does not matter whether obsolete or 7 is looked for first. Theorem
-- `obsolete-not-prevented`.
abbrev pub ObsoleteNotPrevented : Figures → Store → Type 0
ObsoleteNotPrevented f s = NonePrunes f s → (e : Entry) → Outdated f s e → Removes f s e → ⊥

-- Nor is an entry both stored already and one that would remove another: so it does not matter whether held or 7 is looked for first. (Held and 8 do meet, in a
-- full store: there held comes first.) Theorem `held-not-prevented`.
abbrev pub HeldNotPrevented : Figures → Store → Type 0
HeldNotPrevented f s = NonePrunes f s → (e : Entry) → AlreadyStored f s e → Removes f s e → ⊥

-- A stored entry that comes again is held, and nothing changes: the state that is answered, both trees with the stored token, available length and origin,
-- their directories, the tally and the prune list are those handed in. The newer entry in the answer and its token are all 0.
pub record Resent (f : Figures) (w : Tallied) (i : IngestCall) : Type 0 where
  pub answer : (ingested f w i.prune i.handed).answer ≡ plain_answer (says is-held) w.store.state
  pub unchanged : (ingested f w i.prune i.handed).left ≡ w
  pub unwritten : (ingested f w i.prune i.handed).prune ≡ i.prune

-- So it is with every ingestion that is not refused with 1, 2, 3, 10, 4 or 6, whatever its token, its origin and its flag, in a full store, and beside a stored extension
-- that ties. Theorem `resent`.
abbrev pub HeldAgain : Figures → Type 0
HeldAgain f = (w : Tallied) (i : IngestCall) → ingest_refusal f w i.prune i.handed.entry ≡ 0 → AlreadyStored f w.store (entry_of i.handed.entry) → Resent f w i
