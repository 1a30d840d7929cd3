-- Listings. A listing remembers the last key that it gave, at its start the empty key; a step answers the record of the least matching key above that one.
use Rattle.std.specs.Prelude.{ℕ, List, [], Bool, true, false, cond, not, ◌&&◌, length, ltb, eqb, Some, None, Result, Ok, Err}
use Rattle.std.specs.Prelude.{Option as Optional}
use Rattle.std.proofs.Common.{Bor}
use Rattle.std.proofs.Math.Option.{Option, some, none}
use Rattle.laws.specs.Order.{is_less}
use Rattle.laws.specs.Sorted.{keep}
use Rattle.laws.specs.First.{least_that}
use Rattle.layout.specs.Layout.{records, offset_at, length_at}
use Rattle.data_model.specs.Said.{Said, refuses, says, number_of}
use Rattle.data_model.specs.Path.{Figures, by_bytes}
use Rattle.data_model.specs.Refusal.{refusal_number, said_by}
use Rattle.data_model.specs.declared.answer.Refusal.{Refusal}
use Rattle.data_model.specs.declared.area.Area.{Area}
use Rattle.data_model.specs.declared.range_3d.Range3d.{Range3d}
use Rattle.data_model.specs.declared.query_ignore_params.QueryIgnoreParams.{QueryIgnoreParams}
use Rattle.tree.specs.Stored.{Stored, stored, key_of, key_below}
use Rattle.tree.specs.Tree.{keys_below}
use Rattle.tree.specs.Matching.{listed_in_area, listed_in_range}
use Rattle.tree.specs.declared.stored.KeyOrder.TheVariants.{Spt}
use Rattle.store.specs.Store.{Store, tree_of, dir_of}
use Rattle.query.specs.Reading.{list_refusal, area_list_refusal, range_list_refusal}
use Rattle.query.specs.declared.answer.Part.{Part}

-- A step of a listing told in numbers: refusal 0, whether it gave a record, and where that lies in the subspace-first tree, as offset and length; or the refusal.
-- Where no record is given all else is 0.
pub record ListingStep : Type 0 where
  pub refusal : ℕ
  pub found : Bool
  pub offset : ℕ
  pub length : ℕ

-- What the answer of a step tells.
abbrev pub part_told : Result (Optional Part) Refusal → ListingStep
part_told (Ok (Some p)) = record { refusal = 0; found = true; offset = p.offset; length = p.length }
part_told (Ok None) = record { refusal = 0; found = false; offset = 0; length = 0 }
part_told (Err r) = record { refusal = refusal_number r; found = false; offset = 0; length = 0 }

-- The records of the subspace-first tree, in its room.
abbrev pub spt_records : Figures → Store → List (List ℕ)
spt_records f s = records s.state.count (dir_of Spt s) (tree_of f Spt s)

-- Whether the key of a record is above the remembered one, as bytes. Every key is above the empty one.
abbrev pub key_above : (last r : List ℕ) → Bool
key_above last r = is_less (by_bytes last (key_of r))

-- Whether a record qualifies: its key is above the remembered one, and the entry that it says matches.
abbrev pub qualifies : Figures → (namespace : List ℕ) → (test : Stored → Bool) → (last r : List ℕ) → Bool
qualifies f namespace test last r = key_above last r && test (stored Spt f namespace r)

-- A step over records, in whatever order they stand: of those that qualify, the one of the least key.
unfoldable pub step_in : Figures → (namespace : List ℕ) → (test : Stored → Bool) → (last : List ℕ) → List (List ℕ) → Option (List ℕ)
step_in f namespace test last recs = least_that key_below (qualifies f namespace test last) recs

-- A step over the store as it then is.
abbrev pub step : Figures → Store → (test : Stored → Bool) → (last : List ℕ) → Option (List ℕ)
step f s test last = step_in f s.state.namespace_id test last (spt_records f s)

-- The answer of a step: the refusal; or the record; or none, where the listing is finished.
unfoldable pub listed : Figures → Store → (refusal : ℕ) → (test : Stored → Bool) → (last : List ℕ) → Said (Option (List ℕ))
listed f s refusal test last = cond (eqb refusal 0) (says (step f s test last)) (refuses refusal)

-- The same where the test is one of a grouping whose looked-at paths are legal or not.
abbrev pub group_listed : Figures → Store → (paths : Bool) → (test : Stored → Bool) → (last : List ℕ) → Said (Option (List ℕ))
group_listed f s paths test last = listed f s (list_refusal f s paths last) test last

-- The answer of a step of an area's listing.
abbrev pub area_listed : Figures → Store → Area → QueryIgnoreParams → (last : List ℕ) → Said (Option (List ℕ))
area_listed f s area ignore last = listed f s (area_list_refusal f s area last) (listed_in_area area ignore) last

-- The answer of a step of a 3d range's listing.
abbrev pub range_listed : Figures → Store → Range3d → QueryIgnoreParams → (last : List ℕ) → Said (Option (List ℕ))
range_listed f s range ignore last = listed f s (range_list_refusal f s range last) (listed_in_range range ignore) last

-- The same of what a call answers: the record, as the bytes that it points to.
abbrev pub record_of : Optional (Bor (List ℕ)) → Option (List ℕ)
record_of (Some part) = some part.now
record_of None = none

abbrev pub record_said : Result (Optional (Bor (List ℕ))) Refusal → Said (Option (List ℕ))
record_said = said_by record_of

-- What the second call says of an answer: whether a record was found, the listing being else finished; or the refusal.
abbrev pub is_found : Said (Option (List ℕ)) → Said Bool
is_found (says (some r)) = says true
is_found (says none) = says false
is_found (refuses n) = refuses n

-- The part that is answered: the record. Finished or refused, it is empty.
abbrev pub part_of : Said (Option (List ℕ)) → List ℕ
part_of (says (some r)) = r
part_of (says none) = []
part_of (refuses n) = []

abbrev pub area_part : Figures → Store → Area → QueryIgnoreParams → (last : List ℕ) → List ℕ
area_part f s area ignore last = part_of (area_listed f s area ignore last)

abbrev pub range_part : Figures → Store → Range3d → QueryIgnoreParams → (last : List ℕ) → List ℕ
range_part f s range ignore last = part_of (range_listed f s range ignore last)

-- Where the part begins, counted from the tree's first byte: at the offset in the record's pair, before which there are as many pairs as keys below the record's own.
-- Finished or refused, at that byte.
abbrev pub offset_of : Figures → Store → Said (Option (List ℕ)) → ℕ
offset_of f s (says (some r)) = offset_at (keys_below (key_of r) (spt_records f s)) (dir_of Spt s)
offset_of f s (says none) = 0
offset_of f s (refuses n) = 0

abbrev pub area_offset : Figures → Store → Area → QueryIgnoreParams → (last : List ℕ) → ℕ
area_offset f s area ignore last = offset_of f s (area_listed f s area ignore last)

abbrev pub range_offset : Figures → Store → Range3d → QueryIgnoreParams → (last : List ℕ) → ℕ
range_offset f s range ignore last = offset_of f s (range_listed f s range ignore last)

-- Whether an answer gives a record.
abbrev pub is_given : Said (Option (List ℕ)) → Bool
is_given (says (some r)) = true
is_given (says none) = false
is_given (refuses n) = false

-- An answer told in numbers: the refusal, 0 for none; whether there is a record; and where it lies, as offset and length.
abbrev pub step_told : Figures → Store → Said (Option (List ℕ)) → ListingStep
step_told f s a = record { refusal = number_of a; found = is_given a; offset = offset_of f s a; length = length (part_of a) }

-- For the inner functions. How many records have keys that are not above the remembered one.
unfoldable pub not_above : (last : List ℕ) → List (List ℕ) → ℕ
not_above last recs = length (keep (λ (r : List ℕ). not (key_above last r)) recs)

-- The place of a record that is among others: how many keys are below its own. Where there is none, behind the last.
unfoldable pub place_among : List (List ℕ) → Option (List ℕ) → ℕ
place_among recs none = length recs
place_among recs (some r) = keys_below (key_of r) recs

-- The step that gives the record of a place, by the place's pair.
unfoldable pub step_at : (count : ℕ) → (dir : List ℕ) → (place : ℕ) → ListingStep
step_at count dir k =
    cond (ltb k count) (record { refusal = 0; found = true; offset = offset_at k dir; length = length_at k dir }) (record { refusal = 0; found = false; offset = 0; length = 0 })
