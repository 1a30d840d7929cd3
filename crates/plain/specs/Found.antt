-- The answer of a lookup in plain values.
use Rattle.data_model.specs.Origin.{origin_kind, origin_session}
use Rattle.data_model.specs.declared.entry_origin.EntryOrigin.{EntryOrigin}
use Rattle.tree.specs.declared.stored.LengthyAuthorisedEntry.{LengthyAuthorisedEntry}
use Rattle.query.specs.Lookup.{EntryFound}
use Rattle.plain.specs.declared.input.PlainOrigin.{PlainOrigin}
use Rattle.plain.specs.declared.found.PlainLengthyEntry.{PlainLengthyEntry}
use Rattle.plain.specs.declared.found.PlainEntryFound.{PlainEntryFound}

-- An origin: the number of its kind, which is 1 for remote and 0 for local, and its session, which is 0 for local.
abbrev pub plain_origin : EntryOrigin → PlainOrigin
plain_origin o = record { remote = origin_kind o; session = origin_session o }

-- An entry as it is stored, its origin in plain values.
abbrev pub plain_lengthy : LengthyAuthorisedEntry → PlainLengthyEntry
plain_lengthy a = record { entry = a.entry; token = a.token; available = a.available; origin = plain_origin a.origin }

-- The whole answer of a lookup.
abbrev pub plain_found : EntryFound → PlainEntryFound
plain_found f = record { refusal = f.refusal; found = f.found; lengthy = plain_lengthy f.lengthy }
