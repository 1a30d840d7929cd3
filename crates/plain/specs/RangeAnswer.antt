-- 3d ranges in plain values: an open end is told as 0 with the byte 1 beside it, a closed one with the byte 0.
use Rattle.std.specs.Prelude.{ℕ, [], Bool, cond}
use Rattle.data_model.specs.Said.{Said, refuses, says}
use Rattle.data_model.specs.Path.{path_of}
use Rattle.data_model.specs.Subspace.{first_subspace}
use Rattle.data_model.specs.Area.{empty_range}
use Rattle.data_model.specs.declared.parameters.Subspace.{Subspace}
use Rattle.data_model.specs.declared.path.Path.{Path}
use Rattle.data_model.specs.declared.range.Range.{Range}
use Rattle.data_model.specs.declared.range.RangeEnd.{RangeEnd}
use Rattle.data_model.specs.declared.range.RangeEnd.TheVariants.{Closed, Open}
use Rattle.data_model.specs.declared.range_3d.Range3d.{Range3d}
use Rattle.query.specs.Interest.{InterestRange}
use Rattle.plain.specs.declared.input.PlainTimes.{PlainTimes}
use Rattle.plain.specs.declared.input.PlainSubspaces.{PlainSubspaces}
use Rattle.plain.specs.declared.input.PlainPaths.{PlainPaths}
use Rattle.plain.specs.declared.input.PlainRange.{PlainRange}
use Rattle.plain.specs.declared.range_answer.PlainAreaRange.{PlainAreaRange}

-- 1 for yes, 0 for no.
abbrev pub byte_of : Bool → ℕ
byte_of b = cond b 1 0

-- The end of a range: it, or `none` where the range is open; and whether it is open, as a byte.
abbrev pub plain_end : {A : Type 0} → RangeEnd A → (none : A) → A × ℕ
plain_end (Closed e) none = (e, 0)
plain_end Open none = (none, 1)

-- A range of times: both parts of its end beside the start.
abbrev pub plain_times : Range ℕ → PlainTimes
plain_times t = record { start = t.start; end = (plain_end t.end 0).0; «open» = (plain_end t.end 0).1 }

-- A range of subspaces.
abbrev pub plain_subspaces : Range Subspace → PlainSubspaces
plain_subspaces s = record { start = s.start; end = (plain_end s.end first_subspace).0; «open» = (plain_end s.end first_subspace).1 }

-- A range of paths, and a 3d range of the three.
abbrev pub plain_paths : Range Path → PlainPaths
plain_paths p = record { start = p.start; end = (plain_end p.end (path_of [])).0; «open» = (plain_end p.end (path_of [])).1 }

abbrev pub plain_range : Range3d → PlainRange
plain_range r = record { subspaces = plain_subspaces r.subspaces; paths = plain_paths r.paths; times = plain_times r.times }

-- The answers of an area and of an area of interest: refusal and range; refused, the range includes nothing.
abbrev pub plain_area_range : Said Range3d → PlainAreaRange
plain_area_range (says r) = record { refusal = 0; range = plain_range r }
plain_area_range (refuses n) = record { refusal = n; range = plain_range empty_range }

abbrev pub plain_interest_range : InterestRange → PlainAreaRange
plain_interest_range a = record { refusal = a.refusal; range = plain_range a.range }
