-- Entries: which is newer, which prunes which.
use Rattle.std.specs.Prelude.{ℕ, List, [], Bool, ◌&&◌, replicate}
use Rattle.laws.specs.Order.{Order, ◌then◌, by_number, is_greater}
use Rattle.laws.specs.Prefix.{same_number, same_list}
use Rattle.data_model.specs.Path.{Components, components, path_of, by_bytes, is_prefix}
use Rattle.data_model.specs.Subspace.{first_subspace, same_subspace}
use Rattle.data_model.specs.declared.parameters.Subspace.{Subspace}
use Rattle.data_model.specs.declared.entry.Rank.{Rank}
use Rattle.data_model.specs.declared.entry.Entry.{Entry as EntryValue}

-- What an entry value says: entries are the same if these are.
pub record Entry : Type 0 where
  pub namespace : List ℕ
  pub subspace : Subspace
  pub path : Components
  pub rank : Rank

-- The entry of an answer that shows none: every field 0.
abbrev pub no_entry : EntryValue
no_entry = record {
  namespace_id = replicate 16 0;
  subspace_id = first_subspace;
  path = path_of [];
  timestamp = 0;
  payload_length = 0;
  payload_digest = replicate 32 0;
}

unfoldable pub rank_of : EntryValue → Rank
rank_of e = record { timestamp = e.timestamp; payload_digest = e.payload_digest; payload_length = e.payload_length }

unfoldable pub entry_of : EntryValue → Entry
entry_of e = record {
  namespace = e.namespace_id;
  subspace = e.subspace_id;
  path = components e.path;
  rank = rank_of e;
}

-- By timestamp, then digest as bytes, then payload length.
unfoldable pub by_rank : Rank → Rank → Order
by_rank a b = by_number a.timestamp b.timestamp then by_bytes a.payload_digest b.payload_digest then by_number a.payload_length b.payload_length

-- Newer: greater in the first of these that differs. (`recency_says` has all three cases: newer, older, the same.)
unfoldable pub newer : Entry → Entry → Bool
newer a b = is_greater (by_rank a.rank b.rank)

-- Of one namespace and subspace, the path of the first being that of the second or a prefix of it.
unfoldable pub covers : Entry → Entry → Bool
covers a b = same_list same_number a.namespace b.namespace && (same_subspace a.subspace b.subspace && is_prefix a.path b.path)

unfoldable pub prunes : Entry → Entry → Bool
prunes a b = covers a b && newer a b
