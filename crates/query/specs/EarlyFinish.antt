-- What is right of a step's answer, in 02's words, and that a listing finished before a match is shut out. Theorem `early-finish`.
use Rattle.std.specs.Prelude.{ℕ, ◌≡◌, Bool, true, false, cond, ◌↔◌, List, [], eqb}
use Rattle.std.proofs.Math.Option.{Option, some, none}
use Rattle.laws.specs.Sorted.{◌∈◌}
use Rattle.data_model.specs.Said.{Said, refuses, says}
use Rattle.data_model.specs.Path.{field, is_path}
use Rattle.data_model.specs.declared.area.Area.{Area}
use Rattle.data_model.specs.declared.range_3d.Range3d.{Range3d}
use Rattle.data_model.specs.declared.query_ignore_params.QueryIgnoreParams.{QueryIgnoreParams}
use Rattle.keys.specs.Encode.{Triple, spt_key}
use Rattle.key_laws.specs.Bytes.{Bytes}
use Rattle.key_laws.specs.KeyOrder.{Sized}
use Rattle.tree.specs.Stored.{Stored, stored, key_below}
use Rattle.tree.specs.Matching.{listed_in_area, listed_in_range}
use Rattle.tree.specs.declared.stored.KeyOrder.TheVariants.{Spt}
use Rattle.store.specs.Store.{Store}
use Rattle.query.specs.Reading.{is_remembered, area_list_refusal, range_list_refusal}
use Rattle.query.specs.Listing.{spt_records, key_above, area_listed, range_listed}

-- What is to be listed, with the ignore flags.
pub data Wanted : Type 0 where
  of_area : Area → QueryIgnoreParams → Wanted
  of_range : Range3d → QueryIgnoreParams → Wanted

-- Why a step from a remembered key is refused; 0 if it is not.
abbrev pub refusal_of : Store → Wanted → (last : List ℕ) → ℕ
refusal_of s (of_area area ignore) last = area_list_refusal field s area last
refusal_of s (of_range range ignore) last = range_list_refusal field s range last

-- Which entries are listed.
abbrev pub is_wanted : Wanted → Stored → Bool
is_wanted (of_area area ignore) = listed_in_area area ignore
is_wanted (of_range range ignore) = listed_in_range range ignore

-- A listing's step, as any function of what it is handed.
abbrev pub Listing : Type 0
Listing = Store → Wanted → (last : List ℕ) → Said (Option (List ℕ))

-- A record of the subspace-first tree whose key is above the remembered one, and the entry that it says is wanted.
pub record Comes (s : Store) (w : Wanted) (last r : List ℕ) : Type 0 where
  pub stands : r ∈ spt_records field s
  pub above : key_above last r ≡ true
  pub wanted : is_wanted w (stored Spt field s.state.namespace_id r) ≡ true

-- "Each step answers the record of the least matching key above that one .. in the store as it then is": refused exactly where there is a reason, with its
-- number; a record that comes, where none that comes has a key below its own; finished where none comes.
pub record RightAnswer (s : Store) (w : Wanted) (last : List ℕ) (answer : Said (Option (List ℕ))) : Type 0 where
  pub refused : (n : ℕ) → (answer ≡ refuses n) ↔ ((refusal_of s w last ≡ n) × (n ≡ 0 → ⊥))
  pub found : (r : List ℕ) → answer ≡ says (some r) → Comes s w last r × ((q : List ℕ) → Comes s w last q → key_below q r ≡ false)
  pub finished : answer ≡ says none → (r : List ℕ) → Comes s w last r → ⊥

-- In some store a step says finished although a record comes.
abbrev pub FinishesEarly : Listing → Type 0
FinishesEarly l = (s : Store) × (w : Wanted) × (last : List ℕ) × (r : List ℕ) × (l s w last ≡ says none) × Comes s w last r

pub record EarlyFinish : Type 0 where
  -- "Any other remembered key that the subspace-first encoder doesn't write": of bytes, what may not be remembered is not empty, and the key of no triple within the
  -- figures.
  pub refused_keys : (k : List ℕ) → Bytes k → (is_remembered field k ≡ false) ↔ ((k ≡ [] → ⊥) × ((t : Triple) → is_path field t.path ≡ true → Sized t → spt_key t ≡ k → ⊥))
  -- "(at the start, of all)": every record of a store that is not refused is above the empty key.
  pub from_the_start : (s : Store) (w : Wanted) → refusal_of s w [] ≡ 0 → (r : List ℕ) → r ∈ spt_records field s → key_above [] r ≡ true
  -- Whatever the store, exactly one answer is right: the one that `query_area` and `query_area_found` tell, or `query_range` and `query_range_found`.
  pub only_ours_area : (s : Store) (area : Area) (ignore : QueryIgnoreParams) (last : List ℕ) (r : Said (Option (List ℕ))) → RightAnswer s (of_area area ignore) last r ↔ (r ≡ area_listed field s area ignore last)
  pub only_ours_range : (s : Store) (range : Range3d) (ignore : QueryIgnoreParams) (last : List ℕ) (r : Said (Option (List ℕ))) → RightAnswer s (of_range range ignore) last r ↔ (r ≡ range_listed field s range ignore last)
  -- No listing that finishes early answers right everywhere.
  pub finishing_early : (l : Listing) → FinishesEarly l → ((s : Store) (w : Wanted) (last : List ℕ) → RightAnswer s w last (l s w last)) → ⊥
  -- There is one: it refuses as ours does, and else is finished at once.
  pub one_finishes_early : FinishesEarly (λ s w last. cond (eqb (refusal_of s w last) 0) (says none) (refuses (refusal_of s w last)))
