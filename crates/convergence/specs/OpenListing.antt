-- A listing that stays open while calls change the store (02, U7): any calls before each of its steps. Theorem `open-listing`.
use Rattle.std.specs.Prelude.{ℕ, ◌≡◌, List, [], ◌∷◌, Bool}
use Rattle.laws.specs.Sorted.{◌∈◌}
use Rattle.data_model.specs.Path.{field}
use Rattle.data_model.specs.Refusal.{illegal_path, no_key}
use Rattle.data_model.specs.declared.area.Area.{Area}
use Rattle.data_model.specs.declared.range_3d.Range3d.{Range3d}
use Rattle.data_model.specs.declared.query_ignore_params.QueryIgnoreParams.{QueryIgnoreParams}
use Rattle.tree.specs.Stored.{Stored}
use Rattle.tree.specs.Matching.{listed_in_area, listed_in_range}
use Rattle.store.specs.Store.{Tallied}
use Rattle.store.specs.Refusal.{unless, ◌or_else◌}
use Rattle.query.specs.Reading.{is_remembered, list_refusal}
use Rattle.query.specs.Listing.{listed, area_listed, range_listed}
use Rattle.query.specs.Walk.{Turn, Stepped, remembered, Walked, ListingShows}
use Rattle.call_laws.specs.Calls.{Call, IsValue}
use Rattle.convergence.specs.Demand.{ours, after_all, Run, throughout, end}

-- Some calls, and the record that the step after them gave.
pub record Pause : Type 0 where
  pub calls : List Call
  pub given : List ℕ

-- The turns of the listing: each step is made on what the calls up to it left.
abbrev pub turns_from : Tallied → List Pause → List Turn
turns_from w [] = []
turns_from w (p ∷ pauses) = record { store = (after_all (ours field) w p.calls).store; given = p.given } ∷ turns_from (after_all (ours field) w p.calls) pauses

-- What all of them left, and the calls before the last step, which says finished.
abbrev pub left_after : Tallied → List Pause → (calls : List Call) → Tallied
left_after w [] calls = after_all (ours field) w calls
left_after w (p ∷ pauses) calls = left_after (after_all (ours field) w p.calls) pauses calls

-- Each call between the steps is handed values as the language has them.
abbrev pub PausesAreValues : List Pause → (calls : List Call) → Type 0
PausesAreValues pauses calls = ((p : Pause) → p ∈ pauses → (c : Call) → c ∈ p.calls → IsValue field c) × ((c : Call) → c ∈ calls → IsValue field c)

pub record OpenListing : Type 0 where
  -- On what a run leaves a step gets neither 1 nor 2 nor 3: it is refused with 4 for its own path or with 5 for its own key, and for nothing else.
  pub refusals : (r : Run (throughout field) (ours field)) (paths : Bool) (last : List ℕ)
      → list_refusal field (end r).store paths last ≡ (unless paths illegal_path or_else unless (is_remembered field last) no_key)
  -- A listing that is begun after a run never gets 5 for the key that it remembers, whatever calls come between its steps and whatever became of that key's record.
  pub own_key : (r : Run (throughout field) (ours field)) (pauses : List Pause) (calls : List Call) → PausesAreValues pauses calls → (paths : Bool) (test : Stored → Bool)
      → Stepped (λ s last. listed field s (list_refusal field s paths last) test last) [] (turns_from (end r) pauses)
      → list_refusal field (left_after (end r) pauses calls).store paths (remembered [] (turns_from (end r) pauses)) ≡ unless paths illegal_path
  -- A listing that is begun after a run and walked to its end, whatever calls come between its steps, shows what 02 says.
  pub of_area : (r : Run (throughout field) (ours field)) (pauses : List Pause) (calls : List Call) → PausesAreValues pauses calls → (area : Area) (ignore : QueryIgnoreParams)
      → Walked (λ s last. area_listed field s area ignore last) [] (turns_from (end r) pauses) (left_after (end r) pauses calls).store
      → ListingShows field (listed_in_area area ignore) (turns_from (end r) pauses) (left_after (end r) pauses calls).store
  pub of_range : (r : Run (throughout field) (ours field)) (pauses : List Pause) (calls : List Call) → PausesAreValues pauses calls → (range : Range3d) (ignore : QueryIgnoreParams)
      → Walked (λ s last. range_listed field s range ignore last) [] (turns_from (end r) pauses) (left_after (end r) pauses calls).store
      → ListingShows field (listed_in_range range ignore) (turns_from (end r) pauses) (left_after (end r) pauses calls).store
