-- Where the record of a listing's step lies, and the range of an area of interest: what is told in plain values is what the call says. Assumes nothing.
use Prim.Native.Nat.{ℕ}
use mathlib.Core.Path.{◌≡◌, refl, ap, ◌∙◌}
use mathlib.Core.Bool.{Bool}
use mathlib.Core.List.{List}
use lib.ListN.{take, drop}
use Rattle.std.specs.Prelude.{Option as Optional}
use Rattle.std.specs.Prelude.{Some, None, Result, Ok, Err}
use Rattle.data_model.specs.Path.{field, legal}
use Rattle.data_model.specs.Range.{legal_range}
use Rattle.data_model.specs.Refusal.{said}
use Rattle.data_model.specs.declared.answer.Refusal.{Refusal}
use Rattle.data_model.specs.declared.area.Area.{Area}
use Rattle.data_model.specs.declared.range_3d.Range3d.{Range3d}
use Rattle.data_model.specs.declared.query_ignore_params.QueryIgnoreParams.{QueryIgnoreParams}
use Rattle.tree.specs.Stored.{Stored}
use Rattle.tree.specs.Matching.{listed_in_area, listed_in_range}
use Rattle.store.specs.Store.{Store}
use Rattle.query.specs.Reading.{list_refusal}
use Rattle.query.specs.Listing.{listed, area_listed, range_listed, part_of, area_part, range_part, part_told, step_told}
use Rattle.query.specs.Interest.{range_told}
use Rattle.query.specs.declared.answer.Part.{Part}
use Rattle.query.proofs.GivenLaws.{given_some, given_none, given_refused}
use Rattle.plain.specs.Part.{plain_step}
use Rattle.plain.specs.RangeAnswer.{plain_area_range, plain_interest_range}
use Rattle.plain.specs.declared.part.PlainPart.{PlainPart}

-- Where the record of a step of a listing lies.
module _ (s : Store) (b : Bool) (test : Stored → Bool) (last : List ℕ) (p : PlainPart) where
  part-lies : (step : Result (Optional Part) Refusal) → p ≡ plain_step (part_told step) → part_told step ≡ step_told field s (listed field s (list_refusal field s b last) test last)
      → take p.length (drop p.offset s.spt) ≡ part_of (listed field s (list_refusal field s b last) test last)
  part-lies (Ok (Some part)) ep e = ap (λ (x : PlainPart). take x.length (drop x.offset s.spt)) ep ∙ ap part_of (given_some s b test last part e)
  part-lies (Ok None) ep e = ap (λ (x : PlainPart). take x.length (drop x.offset s.spt)) ep ∙ ap part_of (given_none s b test last e)
  part-lies (Err r) ep e = ap (λ (x : PlainPart). take x.length (drop x.offset s.spt)) ep ∙ ap part_of (given_refused s b test last r e)

-- So where the area or the range, and the flags, are read from plain values.
module _ (s : Store) (last : List ℕ) (p : PlainPart) (step : Result (Optional Part) Refusal) (ep : p ≡ plain_step (part_told step)) (i i' : QueryIgnoreParams) (ei : i ≡ i') where
  pub area_lies : (a a' : Area) → a ≡ a' → part_told step ≡ step_told field s (area_listed field s a i last) → take p.length (drop p.offset s.spt) ≡ area_part field s a' i' last
  area_lies a a' ea e =
      part-lies s (legal field a.path) (listed_in_area a i) last p step ep e
      ∙ ap (λ (x : Area). area_part field s x i last) ea ∙ ap (λ (x : QueryIgnoreParams). area_part field s a' x last) ei

  pub range_lies : (r r' : Range3d) → r ≡ r' → part_told step ≡ step_told field s (range_listed field s r i last) → take p.length (drop p.offset s.spt) ≡ range_part field s r' i' last
  range_lies r r' er e =
      part-lies s (legal_range field r.paths) (listed_in_range r i) last p step ep e
      ∙ ap (λ (x : Range3d). range_part field s x i last) er ∙ ap (λ (x : QueryIgnoreParams). range_part field s r' x last) ei

-- The range of an area of interest.
pub interest_plain : (a : Result Range3d Refusal) → plain_area_range (said a) ≡ plain_interest_range (range_told a)
interest_plain (Ok r) = refl
interest_plain (Err r) = refl
