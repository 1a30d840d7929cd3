-- The entry at a subspace and path, if the flags let it through.
use Rattle.std.specs.Prelude.{ℕ, Bool, List, true, false, cond, replicate, eqb, Some, None, Result, Ok, Err}
use Rattle.std.specs.Prelude.{Option as Optional}
use Rattle.std.proofs.Math.Option.{Option, some, none}
use Rattle.laws.specs.First.{first_that}
use Rattle.data_model.specs.Path.{Figures, Components, components, legal}
use Rattle.data_model.specs.Entry.{no_entry}
use Rattle.data_model.specs.Refusal.{refusal_number}
use Rattle.data_model.specs.declared.answer.Refusal.{Refusal}
use Rattle.data_model.specs.declared.entry_origin.EntryOrigin.TheVariants.{Local}
use Rattle.data_model.specs.declared.path.Path.{Path}
use Rattle.data_model.specs.declared.parameters.Subspace.{Subspace}
use Rattle.tree.specs.Stored.{Stored, lengthy}
use Rattle.tree.specs.Matching.{stands_at, let_through}
use Rattle.data_model.specs.declared.query_ignore_params.QueryIgnoreParams.{QueryIgnoreParams}
use Rattle.tree.specs.declared.stored.KeyOrder.TheVariants.{Spt}
use Rattle.tree.specs.declared.stored.LengthyAuthorisedEntry.{LengthyAuthorisedEntry}
use Rattle.store.specs.Store.{Store, held}
use Rattle.query.specs.Reading.{read_refusal}

-- What a lookup tells: refusal 0, whether there is an entry, and it with its token, available length and origin; where there is none or the call is refused all else
-- is 0, and the origin local.
pub record EntryFound : Type 0 where
  pub refusal : ℕ
  pub found : Bool
  pub lengthy : LengthyAuthorisedEntry

-- All 0, which is a local origin.
abbrev pub no_lengthy : LengthyAuthorisedEntry
no_lengthy = record { entry = no_entry; token = replicate 64 0; available = 0; origin = Local }

abbrev pub not_found : (refusal : ℕ) → EntryFound
not_found refusal = record { refusal = refusal; found = false; lengthy = no_lengthy }

-- What the answer of a lookup tells.
abbrev pub entry_told : Result (Optional LengthyAuthorisedEntry) Refusal → EntryFound
entry_told (Ok (Some x)) = record { refusal = 0; found = true; lengthy = x }
entry_told (Ok None) = not_found 0
entry_told (Err r) = not_found (refusal_number r)

-- What stands there, or nothing.
unfoldable pub found_of : QueryIgnoreParams → Option Stored → EntryFound
found_of ignore none = not_found 0
found_of ignore (some x) = cond (let_through ignore x) (record { refusal = 0; found = true; lengthy = lengthy x }) (not_found 0)

abbrev pub found_in : Subspace → Components → QueryIgnoreParams → List Stored → EntryFound
found_in subspace path ignore l = found_of ignore (first_that (stands_at subspace path) l)

unfoldable pub entry_found : Figures → Store → Subspace → Path → QueryIgnoreParams → EntryFound
entry_found f s subspace path ignore =
    cond (eqb (read_refusal f s (legal f path)) 0) (found_in subspace (components path) ignore (held f Spt s)) (not_found (read_refusal f s (legal f path)))
