-- Counts: how many entries of the store an area or a 3d range includes, whatever is available of their payloads.
use Rattle.std.specs.Prelude.{ℕ, Bool, cond, length, eqb, Result, Ok, Err}
use Rattle.laws.specs.Sorted.{keep}
use Rattle.data_model.specs.Path.{Figures}
use Rattle.data_model.specs.Refusal.{refusal_number}
use Rattle.data_model.specs.declared.answer.Refusal.{Refusal}
use Rattle.data_model.specs.declared.area.Area.{Area}
use Rattle.data_model.specs.declared.range_3d.Range3d.{Range3d}
use Rattle.tree.specs.Stored.{Stored}
use Rattle.tree.specs.Matching.{in_area, in_range}
use Rattle.tree.specs.declared.stored.KeyOrder.TheVariants.{Spt}
use Rattle.store.specs.Store.{Store, held}
use Rattle.query.specs.Reading.{area_refusal, range_refusal}

-- A count told in numbers: refusal 0 and the count; or the refusal and 0.
pub record Counted : Type 0 where
  pub refusal : ℕ
  pub count : ℕ

-- What the answer of a count tells.
abbrev pub count_told : Result ℕ Refusal → Counted
count_told (Ok n) = record { refusal = 0; count = n }
count_told (Err r) = record { refusal = refusal_number r; count = 0 }

unfoldable pub counted : Figures → Store → (refusal : ℕ) → (Stored → Bool) → Counted
counted f s refusal test =
    cond (eqb refusal 0) (record { refusal = 0; count = length (keep test (held f Spt s)) }) (record { refusal = refusal; count = 0 })

abbrev pub area_counted : Figures → Store → Area → Counted
area_counted f s area = counted f s (area_refusal f s area) (in_area area)

-- The size part of a summary.
abbrev pub summarised : Figures → Store → Range3d → Counted
summarised f s range = counted f s (range_refusal f s range) (in_range range)
