-- What demand 3 shuts out: kinds of stores, each refuted of every member that opens as 01 says (demand 1), with one that there is; and stores that are as ours
-- but for one flaw, each with the clause of demand 3 that it breaks. `shut_out` proves it.
use Rattle.std.specs.Prelude.{ℕ, suc, ◌<◌, ◌≡◌, List, [], ◌∷◌, map, ◌++◌, Bool, true, false, cond, not, ◌&&◌, length, replicate, take, drop, eqb}
use Rattle.std.proofs.Math.Option.{some}
use Rattle.laws.specs.Sorted.{◌∈◌, any, keep, insert, Ascends}
use Rattle.layout.specs.Layout.{tree_bytes, dir_numbers}
use Rattle.data_model.specs.Path.{field, components}
use Rattle.data_model.specs.Entry.{Entry, entry_of, newer, covers}
use Rattle.data_model.specs.declared.entry_origin.EntryOrigin.TheVariants.{Local, Remote}
use Rattle.tree.specs.Stored.{Stored, record_of, key_below, same_entry}
use Rattle.tree.specs.Matching.{repeats, stands_at, is_forgotten}
use Rattle.tree.specs.declared.stored.KeyOrder.{KeyOrder}
use Rattle.tree.specs.declared.stored.KeyOrder.TheVariants.{Spt, Tsp}
use Rattle.tally.specs.Tally.{tally_holding}
use Rattle.store.specs.Store.{state_with, Store, store_of, tree_room, dir_room, tree_of, dir_of, held, Held, held_by, Tallied, tallied_holding}
use Rattle.store.specs.Open.{nothing}
use Rattle.store.specs.Forget.{without}
use Rattle.store.specs.Ingest.{spt_less, tsp_less, stays, filed_in, filed}
use Rattle.available.specs.Available.{arrive}
use Rattle.call_laws.specs.Calls.{Opening, IngestCall, AreaForgetting, Recording, Call, ingest, forget_entry, forget_area, record_available, forget_payload, filed_as, forgets, recording_of, Verdict, refused, obsolete, already_held, done}
use Rattle.call_laws.specs.Checks.{OpeningVerdictRight, NoneAt}
use Rattle.call_laws.specs.Outcomes.{Outcome, outcome, opens}
use Rattle.convergence.specs.Demand.{Machine, Event, after_all, receipt_of, not_refused, Run, throughout, events, end, receipt_in, Exactly, Demand3}
use Rattle.convergence.specs.Examples.{at_limit, from, one, two, later, lower, other_token, record_for, having}

-- A store, right or wrong: whatever it answers, and leaves of a state, four buffers and a tally.
abbrev pub AStore : Type 0
AStore = Machine Opening Tallied

-- It opens what 01 says, and refuses the rest.
abbrev pub OpensRight : AStore → Type 0
OpensRight m = (o : Opening) → OpeningVerdictRight field o (m.opening o).verdict

-- What a run of it leaves; and what happens in some run of it.
abbrev pub Reached : AStore → Tallied → Type 0
Reached m s = (r : Run (throughout field) m) × (end r ≡ s)

abbrev pub Happens : AStore → (Event Tallied → Type 0) → Type 0
Happens m P = (r : Run (throughout field) m) × (e : Event Tallied) × e ∈ events r × P e

-- Kinds of stores. What an ingestion that is done was handed stands in neither tree afterwards.
abbrev pub FilesNothing : AStore → Type 0
FilesNothing m = (s : Tallied) → Reached m s → (i : IngestCall) (k : KeyOrder) → (m.call s (ingest i)).verdict ≡ done → receipt_of i ∈ map receipt_in (held field k (m.call s (ingest i)).left.store) → ⊥

-- Once its count is not 0 it calls obsolete all that would not be refused.
abbrev pub FirstOnly : AStore → Type 0
FirstOnly m = (s : Tallied) → Reached m s → (i : IngestCall) → (s.store.state.count ≡ 0 → ⊥) → not_refused (outcome field s (ingest i)).verdict ≡ true → (m.call s (ingest i)).verdict ≡ obsolete

-- Whether what a call hands in is an entry at whose subspace and path an entry is stored.
unfoldable pub is_occupied : Tallied → Call → Bool
is_occupied s (ingest i) = any (stands_at i.handed.entry.subspace_id (components i.handed.entry.path)) (held field Spt s.store)
is_occupied s (forget_entry p) = false
is_occupied s (forget_area a) = false
is_occupied s (record_available r) = false
is_occupied s (forget_payload p) = false

-- It calls held whatever comes to a place where an entry is stored, and would not be refused: later readings are lost to earlier ones.
abbrev pub HoldsByPlace : AStore → Type 0
HoldsByPlace m = (s : Tallied) → Reached m s → (c : Call) → is_occupied s c ≡ true → not_refused (outcome field s c).verdict ≡ true → (m.call s c).verdict ≡ already_held

-- It says 8 although fewer than the limit are left after pruning.
abbrev pub FullBelow : AStore → Type 0
FullBelow m = (i : IngestCall)
    × Happens m λ e. (e.call ≡ ingest i) × (e.outcome.verdict ≡ refused 8) × (length (keep (stays (entry_of i.handed.entry)) (held field Spt e.before.store)) < e.before.store.state.limit)

-- It refuses every call; it has one verdict for all ingestions.
abbrev pub RefusesAll : AStore → Type 0
RefusesAll m = (s : Tallied) → Reached m s → (c : Call) → not_refused (m.call s c).verdict ≡ false

abbrev pub OneVerdict : AStore → Type 0
OneVerdict m = (v : Verdict) × ((s : Tallied) → Reached m s → (i : IngestCall) → (m.call s (ingest i)).verdict ≡ v)

-- It forgets nothing, whatever it says; its forgettings write nothing in the time-first tree.
abbrev pub ForgetsNothing : AStore → Type 0
ForgetsNothing m = (s : Tallied) → Reached m s → (c : Call) (p : Stored → Bool) → forgets c ≡ some p → (m.call s c).left ≡ s

abbrev pub ForgetsOneTree : AStore → Type 0
ForgetsOneTree m = (s : Tallied) → Reached m s → (c : Call) (p : Stored → Bool) → forgets c ≡ some p → tree_of field Tsp (m.call s c).left.store ≡ tree_of field Tsp s.store

-- It records nothing, whatever it says; its recordings write nothing in the time-first tree.
abbrev pub RecordsNothing : AStore → Type 0
RecordsNothing m = (s : Tallied) → Reached m s → (c : Call) (r : Recording) → recording_of c ≡ some r → (m.call s c).left ≡ s

abbrev pub RecordsOneTree : AStore → Type 0
RecordsOneTree m = (s : Tallied) → Reached m s → (c : Call) (r : Recording) → recording_of c ≡ some r → tree_of field Tsp (m.call s c).left.store ≡ tree_of field Tsp s.store

-- A recording is done where no entry is stored at the exact subspace and path, as if one below it, or above, were meant.
abbrev pub RecordsElsewhere : AStore → Type 0
RecordsElsewhere m = (r : Recording) × Happens m λ e. (e.call ≡ record_available r) × (e.outcome.verdict ≡ done) × NoneAt field e.before.store r.target

-- An area's forgetting is done, and its number is not that of the entries that it forgets.
abbrev pub MadeUpCount : AStore → Type 0
MadeUpCount m = (a : AreaForgetting)
    × Happens m λ e. (e.call ≡ forget_area a) × (e.outcome.verdict ≡ done) × (e.outcome.number ≡ length (keep (is_forgotten a.area a.protects a.protected) (held field Spt e.before.store)) → ⊥)

-- It changes the store or its tally though the call is not done: refused, obsolete or held. It opens a store of limit 0.
abbrev pub ChangesUndone : AStore → Type 0
ChangesUndone m = Happens m λ e. (e.outcome.verdict ≡ done → ⊥) × (e.outcome.left ≡ e.before → ⊥)

abbrev pub OpensNone : AStore → Type 0
OpensNone m = (m.opening (at_limit 0)).verdict ≡ done

-- It never writes its tally; what a call that is done writes there is the tally of the store before the change.
abbrev pub TalliesNothing : AStore → Type 0
TalliesNothing m = (s : Tallied) → Reached m s → (c : Call) → (m.call s c).left.tally ≡ s.tally

abbrev pub TalliesBefore : AStore → Type 0
TalliesBefore m = (s : Tallied) → Reached m s → (c : Call) → (m.call s c).verdict ≡ done → (m.call s c).left.tally ≡ tally_holding s.store.state.limit (held field Spt s.store) s.tally

-- One of each: it has this verdict and number for all and does nothing; it is as ours until it holds something; as ours, but it forgets nothing, or in one tree,
-- or forgets all when it is refused.
abbrev pub always : Verdict → ℕ → AStore
always v n = record { opening = opens field; call = λ s c. record { verdict = v; number = n; left = s } }

abbrev pub until_one : AStore
until_one = record { opening = opens field; call = λ s c. cond (eqb s.store.state.count 0) (outcome field s c) (record { verdict = obsolete; number = 0; left = s }) }

-- As ours, but that whatever comes to a place where an entry is stored is held.
abbrev pub by_place : AStore
by_place = record { opening = opens field; call = λ s c. cond (is_occupied s c && not_refused (outcome field s c).verdict) (record { verdict = already_held; number = 0; left = s }) (outcome field s c) }

-- As ours, but for the store that a call leaves.
abbrev pub leaving : (Tallied → Call → Outcome Tallied → Tallied) → AStore
leaving g = record { opening = opens field; call = λ s c. let o = outcome field s c in record { verdict = o.verdict; number = o.number; left = g s c o } }

-- The one kind of call, or the other.
unfoldable pub on_forgetting : {A : Type 0} → Call → A → A → A
on_forgetting (ingest i) a b = b
on_forgetting (forget_entry p) a b = a
on_forgetting (forget_area x) a b = a
on_forgetting (record_available r) a b = b
on_forgetting (forget_payload p) a b = b

unfoldable pub on_recording : {A : Type 0} → Call → A → A → A
on_recording (ingest i) a b = b
on_recording (forget_entry p) a b = b
on_recording (forget_area x) a b = b
on_recording (record_available r) a b = a
on_recording (forget_payload p) a b = a

abbrev pub idle : AStore
idle = leaving λ s c o. on_forgetting c s o.left

-- What a call left, with the time-first tree that was handed in.
abbrev pub half_done : Tallied → Tallied → Tallied
half_done s w = record { store = store_of w.store.state w.store.spt w.store.spt_dir s.store.tsp s.store.tsp_dir; tally = w.tally }

abbrev pub haunted : AStore
haunted = leaving λ s c o. on_forgetting c (half_done s o.left) o.left

-- As ours, but that it records nothing, or in one tree.
abbrev pub deaf : AStore
deaf = leaving λ s c o. on_recording c s o.left

abbrev pub half_deaf : AStore
half_deaf = leaving λ s c o. on_recording c (half_done s o.left) o.left

abbrev pub wiping : AStore
wiping = leaving λ s c o. cond (not_refused o.verdict) o.left (tallied_holding field nothing s)

abbrev pub opening_all : AStore
opening_all = record { opening = λ o. record { verdict = done; number = 0; left = (opens field o).left }; call = outcome field }

-- As ours, but for the tally: it is never written; it is written before the change.
abbrev pub silent : AStore
silent = leaving λ s c o. record { store = o.left.store; tally = s.tally }

abbrev pub hasty : AStore
hasty = leaving λ s c o. record { store = o.left.store; tally = tally_holding s.store.state.limit (held field Spt s.store) s.tally }

-- The one where a call is done, the other elsewhere.
unfoldable pub if_done : {A : Type 0} → Verdict → A → A → A
if_done (refused n) a b = b
if_done obsolete a b = b
if_done already_held a b = b
if_done done a b = a

-- The one where an entry is held, the other elsewhere.
unfoldable pub if_held : {A : Type 0} → Verdict → A → A → A
if_held (refused n) a b = b
if_held obsolete a b = b
if_held already_held a b = a
if_held done a b = b

-- As ours, but for what an ingestion that is done leaves.
unfoldable pub instead : (IngestCall → Tallied → Tallied) → Tallied → Call → Outcome Tallied → Tallied
instead g s (ingest i) o = if_done o.verdict (g i s) s
instead g s (forget_entry p) o = o.left
instead g s (forget_area a) o = o.left
instead g s (record_available r) o = o.left
instead g s (forget_payload p) o = o.left

-- One thing wrong with what an ingestion leaves; all but the first two by what the trees are made to hold.
pub data Flaw : Type 0 where
  counts_only leaves_bytes loses_token files_local available_1 keeps_length prunes_nothing prunes_ties prunes_one_tree in_order_of_arrival : Flaw

abbrev pub makes : (Stored → Held → Held) → IngestCall → Tallied → Tallied
makes g i s = tallied_holding field (g (filed_as i) (held_by field s.store)) s

-- What is kept by the rule of 01: all but what stands at the path or an extension and is not newer. So what ties goes too.
abbrev pub kept_by_01 : Stored → List Stored → List Stored
kept_by_01 x = keep λ (y : Stored). not (covers x.entry y.entry && not (newer y.entry x.entry))

-- The available length of what stands at an entry's place, 0 if nothing does.
unfoldable pub length_there : Entry → List Stored → ℕ
length_there e [] = 0
length_there e (y ∷ l) = cond (stands_at e.subspace e.path y) y.available (length_there e l)

-- What is stored, as if it came from here.
abbrev pub from_here : Stored → Stored
from_here x = record { entry = x.entry; token = x.token; available = x.available; origin = Local }

unfoldable pub flawed : Flaw → IngestCall → Tallied → Tallied
flawed counts_only i s = let t = s.store in record { store = store_of (state_with t.state (suc t.state.count)) t.spt t.spt_dir t.tsp t.tsp_dir; tally = (makes filed i s).tally }
flawed leaves_bytes i s = let t = (makes filed i s).store in record { store = store_of t.state (take 200 t.spt ++ 1 ∷ drop 201 t.spt) t.spt_dir t.tsp t.tsp_dir; tally = (makes filed i s).tally }
flawed loses_token i s = makes (λ x h. filed (record { entry = x.entry; token = replicate 64 0; available = 0; origin = x.origin }) h) i s
flawed files_local i s = makes (λ x h. filed (from_here x) h) i s
flawed available_1 i s = makes (λ x h. filed (arrive 1 x) h) i s
flawed keeps_length i s = makes (λ x h. filed (arrive (length_there x.entry h.spt) x) h) i s
flawed prunes_nothing i s = makes (λ x h. record { spt = insert spt_less x h.spt; tsp = insert tsp_less x h.tsp }) i s
flawed prunes_ties i s = makes (λ x h. record { spt = insert spt_less x (kept_by_01 x h.spt); tsp = insert tsp_less x (kept_by_01 x h.tsp) }) i s
flawed prunes_one_tree i s = makes (λ x h. record { spt = filed_in Spt x h.spt; tsp = insert tsp_less x h.tsp }) i s
flawed in_order_of_arrival i s = makes (λ x h. record { spt = filed_in Spt x h.spt; tsp = keep (stays x.entry) h.tsp ++ x ∷ [] }) i s

-- An entry filed in place of the same entry that is stored, so that its token is the new one.
abbrev pub renewed : Stored → Held → Held
renewed x h = let l = without (repeats x.entry) h in record { spt = insert spt_less x l.spt; tsp = insert tsp_less x l.tsp }

-- The stored entry that is this very one, with the origin that now came.
abbrev pub relabelled : Stored → Held → Held
relabelled x h =
    let g : Stored → Stored = λ y. cond (same_entry x.entry y.entry) (record { entry = y.entry; token = y.token; available = y.available; origin = x.origin }) y in
    record { spt = map g h.spt; tsp = map g h.tsp }

-- What is left where an entry that is held changes what the trees hold.
unfoldable pub where_held : (Stored → Held → Held) → Tallied → Call → Outcome Tallied → Tallied
where_held g s (ingest i) o = if_held o.verdict (makes g i s) o.left
where_held g s (forget_entry p) o = o.left
where_held g s (forget_area a) o = o.left
where_held g s (record_available r) o = o.left
where_held g s (forget_payload p) o = o.left

-- As ours, but that it files anew, with the token that now came, what it holds already.
abbrev pub renewing : AStore
renewing = leaving (where_held renewed)

-- As ours, but that an entry that it holds already gets the origin that now came.
abbrev pub relabelling : AStore
relabelling = leaving (where_held relabelled)

abbrev pub with_flaw : Flaw → AStore
with_flaw w = leaving (instead (flawed w))

-- What it leaves of a store of limit 2 after these calls, and after these ingestions.
abbrev pub leaves_after : Flaw → List Call → Store
leaves_after w cs = (after_all (with_flaw w) (opens field (at_limit 2)).left cs).store

abbrev pub leaves : Flaw → List IngestCall → Store
leaves w handed = leaves_after w (map ingest handed)

-- The clause of `Contents` that each of them breaks, all of it having been received. Of two it is `arrived`, which says 0: an available length is not 0, or 2
-- bytes of the later entry are said to be there. Of one it is `inserted`: an entry of session 7 is said to be local.
pub record Broken : Type 0 where
  pub counts_only : Exactly (held field Spt (leaves counts_only (one ∷ []))) (map receipt_of (one ∷ [])) → ⊥
  pub leaves_bytes : let s = leaves leaves_bytes (one ∷ []) in tree_of field Spt s ≡ tree_bytes (tree_room field 2) (map (record_of Spt) (held field Spt s)) → ⊥
  pub loses_token : Exactly (held field Spt (leaves loses_token (other_token ∷ []))) (map receipt_of (other_token ∷ [])) → ⊥
  pub files_local : filed_as one ∈ held field Spt (leaves files_local (from (Remote 7) one ∷ []))
  pub available_1 : ((x : Stored) → x ∈ held field Spt (leaves available_1 (one ∷ [])) → x.available ≡ 0) → ⊥
  pub keeps_length : having 2 later ∈ held field Spt (leaves_after keeps_length (ingest one ∷ record_for one 2 ∷ ingest later ∷ []))
  pub prunes_nothing : Exactly (held field Spt (leaves prunes_nothing (one ∷ later ∷ []))) (map receipt_of (one ∷ later ∷ [])) → ⊥
  pub prunes_ties : Exactly (held field Spt (leaves prunes_ties (lower ∷ one ∷ []))) (map receipt_of (lower ∷ one ∷ [])) → ⊥
  pub prunes_one_tree : let s = leaves prunes_one_tree (one ∷ later ∷ []) in dir_of Tsp s ≡ dir_numbers (dir_room 2) (map (record_of Tsp) (held field Tsp s)) → ⊥
  pub in_order_of_arrival : Ascends key_below (map (record_of Tsp) (held field Tsp (leaves in_order_of_arrival (one ∷ two ∷ [])))) → ⊥

abbrev pub Refuted : AStore → Type 0
Refuted m = Demand3 (throughout field) m → ⊥

pub record ShutOut : Type 0 where
  pub filing_nothing : (m : AStore) → OpensRight m → FilesNothing m → Refuted m
  pub filing_the_first : (m : AStore) → OpensRight m → FirstOnly m → Refuted m
  pub holding_by_place : (m : AStore) → OpensRight m → HoldsByPlace m → Refuted m
  pub full_below : (m : AStore) → FullBelow m → Refuted m
  pub refusing_everybody : (m : AStore) → OpensRight m → RefusesAll m → Refuted m
  pub one_verdict : (m : AStore) → OpensRight m → OneVerdict m → Refuted m
  pub forgetting_nothing : (m : AStore) → OpensRight m → ForgetsNothing m → Refuted m
  pub forgetting_one_tree : (m : AStore) → OpensRight m → ForgetsOneTree m → Refuted m
  pub recording_nothing : (m : AStore) → OpensRight m → RecordsNothing m → Refuted m
  pub recording_one_tree : (m : AStore) → OpensRight m → RecordsOneTree m → Refuted m
  pub recording_elsewhere : (m : AStore) → RecordsElsewhere m → Refuted m
  pub made_up_count : (m : AStore) → MadeUpCount m → Refuted m
  pub changing_undone : (m : AStore) → ChangesUndone m → Refuted m
  pub opening_none : (m : AStore) → OpensNone m → Refuted m
  pub tallying_nothing : (m : AStore) → OpensRight m → TalliesNothing m → Refuted m
  pub tallying_before : (m : AStore) → OpensRight m → TalliesBefore m → Refuted m
  -- With demand 1: it opens nothing.
  pub opening_nothing : (m : AStore) → ((o : Opening) → (m.opening o).verdict ≡ done → ⊥) → OpensRight m → ⊥
  -- There are such, and others that are as ours but for one thing.
  pub one_files_nothing : OpensRight (always done 0) × FilesNothing (always done 0)
  pub one_files_the_first : OpensRight until_one × FirstOnly until_one
  pub one_holds_by_place : OpensRight by_place × HoldsByPlace by_place
  pub one_is_full_below : FullBelow (always (refused 8) 0)
  pub one_refuses_everybody : (n : ℕ) → OpensRight (always (refused n) 0) × RefusesAll (always (refused n) 0)
  pub one_has_one_verdict : (v : Verdict) → OpensRight (always v 0) × OneVerdict (always v 0)
  pub one_forgets_nothing : OpensRight idle × ForgetsNothing idle
  pub one_forgets_one_tree : OpensRight haunted × ForgetsOneTree haunted
  pub one_records_nothing : OpensRight deaf × RecordsNothing deaf
  pub one_records_one_tree : OpensRight half_deaf × RecordsOneTree half_deaf
  pub one_records_elsewhere : RecordsElsewhere (always done 0)
  pub one_makes_it_up : MadeUpCount (always done 1)
  pub one_changes_refused : ChangesUndone wiping
  pub one_renews_held : ChangesUndone renewing
  pub one_relabels_held : ChangesUndone relabelling
  pub one_opens_none : OpensNone opening_all
  pub one_tallies_nothing : OpensRight silent × TalliesNothing silent
  pub one_tallies_before : OpensRight hasty × TalliesBefore hasty
  pub broken : Broken
  pub having_a_flaw : (w : Flaw) → Refuted (with_flaw w)
