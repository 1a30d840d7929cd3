-- The calls that open and change a store: what is handed in, and which verdicts there are.
use Rattle.std.specs.Prelude.{ℕ, ◌≤◌, ◌<◌, ◌^◌, ◌≡◌, List, [], ◌∷◌, Bool, true, false, cond, length, eqb}
use Rattle.std.proofs.Math.Option.{Option, some, none}
use Rattle.laws.specs.Sorted.{◌∈◌}
use Rattle.data_model.specs.Said.{Said, refuses, says}
use Rattle.data_model.specs.Path.{Figures, components}
use Rattle.data_model.specs.Entry.{entry_of}
use Rattle.data_model.specs.Origin.{origin_session}
use Rattle.data_model.specs.declared.path.Path.{Path}
use Rattle.data_model.specs.declared.parameters.Subspace.{Subspace}
use Rattle.data_model.specs.declared.area.Area.{Area}
use Rattle.key_laws.specs.Bytes.{Bytes}
use Rattle.tree.specs.Stored.{Stored}
use Rattle.tree.specs.Matching.{removes, stands_at, is_forgotten}
use Rattle.store.specs.Store.{dir_room}
use Rattle.store.specs.Ingest.{Verdict as IngestVerdict, succeeds, is-obsolete, is-held, filing}
use Rattle.store.specs.declared.ingest.Ingestion.{Ingestion}
use Rattle.available.specs.Available.{arrive_at}

-- An opening: whatever namespace, limit and buffers. Two are alike if namespace and limit are the same.
pub record Opening : Type 0 where
  pub namespace : List ℕ
  pub limit : ℕ
  pub spt : List ℕ
  pub spt_dir : List ℕ
  pub tsp : List ℕ
  pub tsp_dir : List ℕ
  pub tally : List ℕ

pub record Alike (o p : Opening) : Type 0 where
  pub namespace : o.namespace ≡ p.namespace
  pub limit : o.limit ≡ p.limit

-- The calls that change a store, with all that is free in them: a prune list and what an ingestion is handed; the place of an entry and the digest expected there,
-- if one is; an area and a protected one, if there is one; an available length for the entry at a place.
pub record IngestCall : Type 0 where
  pub prune : List ℕ
  pub handed : Ingestion

pub record Target : Type 0 where
  pub subspace : Subspace
  pub path : Path
  pub expects : Bool
  pub digest : List ℕ

pub record AreaForgetting : Type 0 where
  pub area : Area
  pub protects : Bool
  pub protected : Area

pub record Recording : Type 0 where
  pub target : Target
  pub available : ℕ

pub data Call : Type 0 where
  ingest : IngestCall → Call
  forget_entry : Target → Call
  forget_area : AreaForgetting → Call
  record_available : Recording → Call
  forget_payload : Target → Call

-- What an ingestion files.
abbrev pub filed_as : IngestCall → Stored
filed_as i = filing i.handed

-- A buffer of a call's own: how long it is, and how long it must be.
pub record Room : Type 0 where
  pub has : ℕ
  pub needs : ℕ

-- What a call hands in that a check looks at: paths, whether it is lent the tally, its own buffers under the store's limit, ingestions, available lengths and the
-- places that they are for, places with the digest expected there.
pub record Input : Type 0 where
  pub paths : List Path
  pub tallied : Bool
  pub rooms : (limit : ℕ) → List Room
  pub ingestions : List IngestCall
  pub recordings : List Recording
  pub expected : List Target

-- The digest expected at a place, if one is.
abbrev pub expecting : Target → List Target
expecting p = cond p.expects (p ∷ []) []

-- Forgetting a payload is recording that nothing is available.
abbrev pub nothing_at : Target → Recording
nothing_at p = record { target = p; available = 0 }

unfoldable pub input : Call → Input
input (ingest i) = record { paths = i.handed.entry.path ∷ []; tallied = true; rooms = λ limit. record { has = length i.prune; needs = dir_room limit } ∷ []; ingestions = i ∷ []; recordings = []; expected = [] }
input (forget_entry p) = record { paths = p.path ∷ []; tallied = true; rooms = λ limit. []; ingestions = []; recordings = []; expected = expecting p }
input (forget_area a) = record { paths = a.area.path ∷ cond a.protects (a.protected.path ∷ []) []; tallied = true; rooms = λ limit. []; ingestions = []; recordings = []; expected = [] }
input (record_available r) = record { paths = r.target.path ∷ []; tallied = false; rooms = λ limit. []; ingestions = []; recordings = r ∷ []; expected = expecting r.target }
input (forget_payload p) = record { paths = p.path ∷ []; tallied = false; rooms = λ limit. []; ingestions = []; recordings = nothing_at p ∷ []; expected = expecting p }

-- Which entries a call forgets, if it is one that forgets.
unfoldable pub forgets : Call → Option (Stored → Bool)
forgets (ingest i) = none
forgets (forget_entry p) = some (stands_at p.subspace (components p.path))
forgets (forget_area a) = some (is_forgotten a.area a.protects a.protected)
forgets (record_available r) = none
forgets (forget_payload p) = none

-- Which available length a call sets, if it is one that records or forgets one.
unfoldable pub recording_of : Call → Option Recording
recording_of (ingest i) = none
recording_of (forget_entry p) = none
recording_of (forget_area a) = none
recording_of (record_available r) = some r
recording_of (forget_payload p) = some (nothing_at p)

-- What is stored, after a recording that is done: with its available length where it stands at its place, else as it is.
abbrev pub arrives_by : Recording → Stored → Stored
arrives_by r = let p = r.target in arrive_at p.subspace (components p.path) r.available

-- Which entries the number in its answer counts: those that an ingestion removes, those that an area's forgetting forgets. The others answer no number.
unfoldable pub counted : Call → Stored → Bool
counted (ingest i) = removes (entry_of i.handed.entry)
counted (forget_entry p) = λ x. false
counted (forget_area a) = is_forgotten a.area a.protects a.protected
counted (record_available r) = λ x. false
counted (forget_payload p) = λ x. false

-- A call is refused with a number, or the entry is obsolete, or it is held already, or the call is done.
pub data Verdict : Type 0 where
  refused : ℕ → Verdict
  obsolete already_held done : Verdict

-- The verdict of an ingestion, and that of a call that answers the number of a refusal, 0 for none.
unfoldable pub ingest_verdict : Said IngestVerdict → Verdict
ingest_verdict (says (succeeds n)) = done
ingest_verdict (says is-obsolete) = obsolete
ingest_verdict (says is-held) = already_held
ingest_verdict (refuses n) = refused n

unfoldable pub number_verdict : ℕ → Verdict
number_verdict n = cond (eqb n 0) done (refused n)

-- What every value of its type is, in the language, as far as it is needed: arrays have their lengths, a path's bytes are below 256, numbers below 2 ^ 64.
pub record IngestionIsValue (f : Figures) (i : Ingestion) : Type 0 where
  pub path_room : f.mpl ≤ length i.entry.path.bytes
  pub path_bytes : Bytes i.entry.path.bytes
  pub high : i.entry.subspace_id.high < 2 ^ 64
  pub low : i.entry.subspace_id.low < 2 ^ 64
  pub time : i.entry.timestamp < 2 ^ 64
  pub payload : i.entry.payload_length < 2 ^ 64
  pub digest : length i.entry.payload_digest ≡ 32
  pub token : length i.token ≡ 64
  pub session : origin_session i.origin < 2 ^ 64

abbrev pub IsValue : Figures → Call → Type 0
IsValue f c = (i : IngestCall) → i ∈ (input c).ingestions → IngestionIsValue f i.handed
