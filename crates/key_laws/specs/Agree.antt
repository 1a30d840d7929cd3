-- Values that differ at most in what is never looked at: bytes past a path's total, ends past its count, an absent protected area.
-- That no call answers them differently is the theorem `unseen` of call_laws.
use Rattle.std.specs.Prelude.{ℕ, ◌≡◌, Bool, true, false, take}
use Rattle.data_model.specs.Path.{last_end}
use Rattle.data_model.specs.declared.path.Path.{Path}
use Rattle.data_model.specs.declared.entry.Entry.{Entry}
use Rattle.data_model.specs.declared.range.Range.{Range}
use Rattle.data_model.specs.declared.range.RangeEnd.{RangeEnd}
use Rattle.data_model.specs.declared.range.RangeEnd.TheVariants.{Closed, Open}
use Rattle.data_model.specs.declared.range_3d.Range3d.{Range3d}
use Rattle.data_model.specs.declared.area.Area.{Area}
use Rattle.data_model.specs.declared.area_of_interest.AreaOfInterest.{AreaOfInterest}

-- A path's total: the last end that counts, and 0 if none does.
abbrev pub total : Path → ℕ
total p = last_end 0 (take p.count p.ends)

-- Two path values agree: in the count, in the ends up to the count and in the bytes up to the total.
pub record PathsAgree (p q : Path) : Type 0 where
  pub count : p.count ≡ q.count
  pub ends : take p.count p.ends ≡ take q.count q.ends
  pub bytes : take (total p) p.bytes ≡ take (total q) q.bytes

-- Two values that hold paths agree if these do and all else is the same.
pub record EntriesAgree (a b : Entry) : Type 0 where
  pub namespace : a.namespace_id ≡ b.namespace_id
  pub subspace : a.subspace_id ≡ b.subspace_id
  pub path : PathsAgree a.path b.path
  pub timestamp : a.timestamp ≡ b.timestamp
  pub payload : a.payload_length ≡ b.payload_length
  pub digest : a.payload_digest ≡ b.payload_digest

pub record AreasAgree (a b : Area) : Type 0 where
  pub subspace : a.subspace ≡ b.subspace
  pub path : PathsAgree a.path b.path
  pub times : a.times ≡ b.times

-- Two ends agree if both are open, or both are closed and their paths agree.
abbrev pub EndsAgree : RangeEnd Path → RangeEnd Path → Type 0
EndsAgree (Closed p) (Closed q) = PathsAgree p q
EndsAgree (Closed p) Open = ⊥
EndsAgree Open (Closed q) = ⊥
EndsAgree Open Open = Unit

pub record PathRangesAgree (a b : Range Path) : Type 0 where
  pub start : PathsAgree a.start b.start
  pub end : EndsAgree a.end b.end

pub record RangesAgree (a b : Range3d) : Type 0 where
  pub subspaces : a.subspaces ≡ b.subspaces
  pub paths : PathRangesAgree a.paths b.paths
  pub times : a.times ≡ b.times

pub record InterestsAgree (a b : AreaOfInterest) : Type 0 where
  pub area : AreasAgree a.area b.area
  pub count : a.max_count ≡ b.max_count
  pub size : a.max_size ≡ b.max_size

-- Absent protected areas may be any two.
abbrev pub ProtectedAgree : (protects : Bool) → Area → Area → Type 0
ProtectedAgree true a b = AreasAgree a b
ProtectedAgree false a b = Unit

-- An answer is the same for every two values that agree, and one of two values if both agree.
abbrev pub SameFor : {A B : Type 0} → (Agree : A → A → Type 0) → (answer : A → B) → Type 0
SameFor {A} Agree answer = (a b : A) → Agree a b → answer a ≡ answer b

abbrev pub SameForBoth : {A B C : Type 0} → (Agree : A → A → Type 0) → (Agree' : B → B → Type 0) → (answer : A → B → C) → Type 0
SameForBoth {A} {B} Agree Agree' answer = (a b : A) (x y : B) → Agree a b → Agree' x y → answer a x ≡ answer b y
