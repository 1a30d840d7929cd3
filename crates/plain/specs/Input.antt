-- What the plain values that a caller hands in stand for. No value is left without a meaning: every byte but 0 means yes.
use Rattle.std.specs.Prelude.{ℕ, List, Bool, not, cond, eqb, Option, Some, None}
use Rattle.data_model.specs.declared.parameters.Subspace.{Subspace}
use Rattle.data_model.specs.declared.path.Path.{Path}
use Rattle.data_model.specs.declared.area.Area.{Area}
use Rattle.data_model.specs.declared.area.AreaSubspace.{AreaSubspace}
use Rattle.data_model.specs.declared.area.AreaSubspace.TheVariants.{Any, Id}
use Rattle.data_model.specs.declared.area_of_interest.AreaOfInterest.{AreaOfInterest}
use Rattle.data_model.specs.declared.entry.Entry.{Entry}
use Rattle.data_model.specs.declared.entry_origin.EntryOrigin.{EntryOrigin}
use Rattle.data_model.specs.declared.entry_origin.EntryOrigin.TheVariants.{Local, Remote}
use Rattle.data_model.specs.declared.range.Range.{Range}
use Rattle.data_model.specs.declared.range.RangeEnd.{RangeEnd}
use Rattle.data_model.specs.declared.range.RangeEnd.TheVariants.{Closed, Open}
use Rattle.data_model.specs.declared.range_3d.Range3d.{Range3d}
use Rattle.data_model.specs.declared.query_ignore_params.QueryIgnoreParams.{QueryIgnoreParams}
use Rattle.store.specs.declared.ingest.Ingestion.{Ingestion}
use Rattle.plain.specs.declared.input.PlainTimes.{PlainTimes}
use Rattle.plain.specs.declared.input.PlainSubspaces.{PlainSubspaces}
use Rattle.plain.specs.declared.input.PlainPaths.{PlainPaths}
use Rattle.plain.specs.declared.input.PlainArea.{PlainArea}
use Rattle.plain.specs.declared.input.PlainRange.{PlainRange}
use Rattle.plain.specs.declared.input.PlainInterest.{PlainInterest}
use Rattle.plain.specs.declared.input.PlainIgnore.{PlainIgnore}
use Rattle.plain.specs.declared.input.PlainOrigin.{PlainOrigin}

-- A byte means yes unless it is 0.
abbrev pub is_yes : ℕ → Bool
is_yes n = not (eqb n 0)

-- A value beside a yes or no: it, or none.
abbrev pub given : {A : Type 0} → ℕ → A → Option A
given flag x = cond (is_yes flag) (Some x) None

-- An area's subspace: any, or the one that is named.
abbrev pub area_subspace_of : ℕ → Subspace → AreaSubspace
area_subspace_of any id = cond (is_yes any) Any (Id id)

-- The end of a range: open, or closed at the end that is named.
abbrev pub end_of : {A : Type 0} → ℕ → A → RangeEnd A
end_of flag end = cond (is_yes flag) Open (Closed end)

-- A range of times.
abbrev pub times_of : PlainTimes → Range ℕ
times_of t = record { start = t.start; end = end_of t.«open» t.end }

-- A range of subspaces.
abbrev pub subspaces_of : PlainSubspaces → Range Subspace
subspaces_of s = record { start = s.start; end = end_of s.«open» s.end }

-- A range of paths.
abbrev pub paths_of : PlainPaths → Range Path
paths_of p = record { start = p.start; end = end_of p.«open» p.end }

-- An area, with its subspace and its times read.
abbrev pub area_of : PlainArea → Area
area_of a = record { subspace = area_subspace_of a.any_subspace a.subspace; path = a.path; times = times_of a.times }

-- A 3d range: its three ranges read.
abbrev pub range_of : PlainRange → Range3d
range_of r = record { subspaces = subspaces_of r.subspaces; paths = paths_of r.paths; times = times_of r.times }

-- An area of interest: the area read, the limits as they are.
abbrev pub interest_of : PlainInterest → AreaOfInterest
interest_of i = record { area = area_of i.area; max_count = i.max_count; max_size = i.max_size }

-- The two flags of a query.
abbrev pub ignore_of : PlainIgnore → QueryIgnoreParams
ignore_of i = record {
  ignore_incomplete_payloads = is_yes i.incomplete_payloads;
  ignore_empty_payloads = is_yes i.empty_payloads;
}

-- An origin: remote with its session, or local.
abbrev pub origin_in : PlainOrigin → EntryOrigin
origin_in o = cond (is_yes o.remote) (Remote o.session) Local

-- What an ingestion is handed: the entry and its token as they are, whether pruning is prevented, and the origin.
abbrev pub ingestion_of : Entry → (token : List ℕ) → ℕ → PlainOrigin → Ingestion
ingestion_of e token prevents from = record { entry = e; token = token; prevent_pruning = is_yes prevents; origin = origin_in from }
