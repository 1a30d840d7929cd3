-- 01, "When a call says no, in checking order", and 02's refusals among them: what each call looks for, in which order, and in words where each case holds.
use Rattle.std.specs.Prelude.{◌≤◌, ◌<◌, ◌≡◌, List, [], ◌∷◌, true, false, ◌⊎◌, ◌↔◌, length}
use Rattle.laws.specs.Sorted.{◌∈◌, keep}
use Rattle.data_model.specs.Path.{Figures, components, legal}
use Rattle.data_model.specs.Entry.{Entry, entry_of, newer, covers, prunes}
use Rattle.data_model.specs.declared.path.Path.{Path}
use Rattle.tree.specs.Stored.{Stored}
use Rattle.tree.specs.Tree.{WellFormed}
use Rattle.tree.specs.declared.stored.KeyOrder.{KeyOrder}
use Rattle.tree.specs.declared.stored.KeyOrder.TheVariants.{Spt, Tsp}
use Rattle.tally.specs.Tally.{tally_room, tally_bytes}
use Rattle.store.specs.Store.{Store, limit_most, tree_room, dir_room, tree_of, dir_of, held, Tallied, tallied_of, tally_part}
use Rattle.store.specs.Open.{empty_state}
use Rattle.store.specs.Ingest.{stays}
use Rattle.call_laws.specs.Calls.{Opening, IngestCall, Target, Recording, Call, ingest, forget_entry, forget_area, record_available, forget_payload, Room, Input, input, Verdict, refused, obsolete, already_held, done}

-- No subspace and path stands twice.
abbrev pub NoTwice : List Stored → Type 0
NoTwice [] = Unit
NoTwice (a ∷ l) = ((b : Stored) → b ∈ l → a.entry.subspace ≡ b.entry.subspace → a.entry.path ≡ b.entry.path → ⊥) × NoTwice l

-- 01, "A well-formed store": what `well_formed_store` tests, as facts. `WellFormed` is about each tree by itself: its directory, records, keys and zeros are right.
pub record WellFormedStore (f : Figures) (s : Store) : Type 0 where
  pub few : s.state.count ≤ s.state.limit
  pub each : (o : KeyOrder) → WellFormed o f s.state.count (dir_of o s) (tree_of f o s)
  pub same : (x : Stored) → x ∈ held f Spt s ↔ x ∈ held f Tsp s
  pub no_twice : NoTwice (held f Spt s)
  pub apart : (x y : Stored) → x ∈ held f Spt s → y ∈ held f Spt s → prunes x.entry y.entry ≡ false

-- A buffer of the store is shorter than 419 × limit bytes for a tree, 2 × limit numbers for a directory.
abbrev pub ShortBuffer : Figures → Store → Type 0
ShortBuffer f s =
    let n = s.state.limit in
    (length s.spt < tree_room f n) ⊎ ((length s.spt_dir < dir_room n) ⊎ ((length s.tsp < tree_room f n) ⊎ (length s.tsp_dir < dir_room n)))

-- The tally is shorter than 28 × limit bytes.
abbrev pub ShortTally : Tallied → Type 0
ShortTally w = length w.tally < tally_room w.store.state.limit

-- 02, U1: the tally is the one that its store gives, worked out afresh: the items of what is held (`tally-said` says which), and zeros behind them up to the
-- limit's room. It does not matter from which of the trees (`either-tree`).
abbrev pub TallyRight : Figures → Tallied → Type 0
TallyRight f w = tally_part w ≡ tally_bytes w.store.state.limit (held f Spt w.store)

-- Stored, which is to say held by the subspace-first tree: an entry of the subspace, at a prefix of the path or the path itself, that is newer.
abbrev pub Outdated : Figures → Store → Entry → Type 0
Outdated f s e = (x : Stored) × x ∈ held f Spt s × (covers x.entry e ≡ true) × (newer x.entry e ≡ true)

-- 02, U2: the very entry is stored, which is one of the same subspace, path, timestamp, digest and length, whatever its token. (Their namespace is the
-- store's, as 6 has been looked for.)
abbrev pub AlreadyStored : Figures → Store → Entry → Type 0
AlreadyStored f s e = (x : Stored) × x ∈ held f Spt s × (x.entry ≡ e)

-- 02, U3: a stored entry at the path or an extension is strictly older: it would be removed, and all others stay (`stays`), those that tie too.
abbrev pub Removes : Figures → Store → Entry → Type 0
Removes f s e = (x : Stored) × x ∈ held f Spt s × (covers e x.entry ≡ true) × (newer e x.entry ≡ true)

-- The entry stored at the subspace and path has another digest.
abbrev pub OtherDigest : Figures → Store → Target → Type 0
OtherDigest f s p = (x : Stored) × x ∈ held f Spt s × (x.entry.subspace ≡ p.subspace) × (x.entry.path ≡ components p.path) × (x.entry.rank.payload_digest ≡ p.digest → ⊥)

-- 02, U4: no entry is stored at the subspace and path; and the one stored there has a payload that is shorter than the available length.
abbrev pub NoneAt : Figures → Store → Target → Type 0
NoneAt f s p = (x : Stored) → x ∈ held f Spt s → x.entry.subspace ≡ p.subspace → x.entry.path ≡ components p.path → ⊥

abbrev pub TooMuch : Figures → Store → Recording → Type 0
TooMuch f s r = (x : Stored) × x ∈ held f Spt s × (x.entry.subspace ≡ r.target.subspace) × (x.entry.path ≡ components r.target.path) × (x.entry.rank.payload_length < r.available)

-- What a call may find, and the verdict that it then gives.
pub data Case : Type 0 where
  limit_outside short-buffer not-well-formed wrong-tally illegal-path other-namespace outdated already_stored prevented full other-digest absent-entry too-much-available : Case

unfoldable pub verdict_of : Case → Verdict
verdict_of limit_outside = refused 1
verdict_of short-buffer = refused 2
verdict_of not-well-formed = refused 3
verdict_of wrong-tally = refused 10
verdict_of illegal-path = refused 4
verdict_of other-namespace = refused 6
verdict_of outdated = obsolete
verdict_of already_stored = already_held
verdict_of prevented = refused 7
verdict_of full = refused 8
verdict_of other-digest = refused 9
verdict_of absent-entry = refused 11
verdict_of too-much-available = refused 12

-- What each call looks for, in checking order.
unfoldable pub checks : Call → List Case
checks (ingest i) = limit_outside ∷ short-buffer ∷ not-well-formed ∷ wrong-tally ∷ illegal-path ∷ other-namespace ∷ outdated ∷ already_stored ∷ prevented ∷ full ∷ []
checks (forget_entry p) = limit_outside ∷ short-buffer ∷ not-well-formed ∷ wrong-tally ∷ illegal-path ∷ other-digest ∷ []
checks (forget_area a) = limit_outside ∷ short-buffer ∷ not-well-formed ∷ wrong-tally ∷ illegal-path ∷ []
checks (record_available r) = limit_outside ∷ short-buffer ∷ not-well-formed ∷ illegal-path ∷ absent-entry ∷ other-digest ∷ too-much-available ∷ []
checks (forget_payload p) = limit_outside ∷ short-buffer ∷ not-well-formed ∷ illegal-path ∷ absent-entry ∷ other-digest ∷ []

-- Where each case holds, of a store with its tally and what a call hands in.
unfoldable pub Holds : Figures → Tallied → Input → Case → Type 0
Holds f w h limit_outside = (w.store.state.limit < 1) ⊎ (limit_most < w.store.state.limit)
Holds f w h short-buffer = ShortBuffer f w.store ⊎ (((h.tallied ≡ true) × ShortTally w) ⊎ ((b : Room) × b ∈ h.rooms w.store.state.limit × (b.has < b.needs)))
Holds f w h not-well-formed = WellFormedStore f w.store → ⊥
Holds f w h wrong-tally = TallyRight f w → ⊥
Holds f w h illegal-path = (p : Path) × p ∈ h.paths × (legal f p ≡ false)
Holds f w h other-namespace = (i : IngestCall) × i ∈ h.ingestions × (i.handed.entry.namespace_id ≡ w.store.state.namespace_id → ⊥)
Holds f w h outdated = (i : IngestCall) × i ∈ h.ingestions × Outdated f w.store (entry_of i.handed.entry)
Holds f w h already_stored = (i : IngestCall) × i ∈ h.ingestions × AlreadyStored f w.store (entry_of i.handed.entry)
Holds f w h prevented = (i : IngestCall) × i ∈ h.ingestions × ((i.handed.prevent_pruning ≡ true) × Removes f w.store (entry_of i.handed.entry))
Holds f w h full = (i : IngestCall) × i ∈ h.ingestions × (w.store.state.limit ≤ length (keep (stays (entry_of i.handed.entry)) (held f Spt w.store)))
Holds f w h other-digest = (p : Target) × p ∈ h.expected × OtherDigest f w.store p
Holds f w h absent-entry = (r : Recording) × r ∈ h.recordings × NoneAt f w.store r.target
Holds f w h too-much-available = (r : Recording) × r ∈ h.recordings × TooMuch f w.store r

-- The first case that holds decides the verdict; done, if none does. One verdict is right: `decides-one`.
unfoldable pub Decides : (Case → Type 0) → List Case → Verdict → Type 0
Decides H [] v = v ≡ done
Decides H (k ∷ ks) v = (H k × (v ≡ verdict_of k)) ⊎ ((H k → ⊥) × Decides H ks v)

abbrev pub VerdictRight : Figures → Tallied → Call → Verdict → Type 0
VerdictRight f w c v = Decides (Holds f w (input c)) (checks c) v

-- An opening looks at the limit and the buffers that it asks for, the tally too, as a store with the state that it would have; it hands in nothing else.
abbrev pub asked : Opening → Tallied
asked o = tallied_of (empty_state o.namespace o.limit) o.spt o.spt_dir o.tsp o.tsp_dir o.tally

abbrev pub OpeningVerdictRight : Figures → Opening → Verdict → Type 0
OpeningVerdictRight f o v = Decides (Holds f (asked o) (record { paths = []; tallied = true; rooms = λ limit. []; ingestions = []; recordings = []; expected = [] })) (limit_outside ∷ short-buffer ∷ []) v
