-- What is asked of a stored entry: is it newer than an entry below it, is it removed by one, is it that very entry, does it stand at a place,
-- in an area or a range, and do the ignore flags let it through.
use Rattle.std.specs.Prelude.{Bool, false, not, cond, ◌&&◌, ltb}
use Rattle.laws.specs.Prefix.{same_number}
use Rattle.data_model.specs.Path.{Components, same_path}
use Rattle.data_model.specs.Subspace.{same_subspace}
use Rattle.data_model.specs.Entry.{Entry, prunes}
use Rattle.data_model.specs.Area.{area_includes}
use Rattle.data_model.specs.Range3d.{range_includes}
use Rattle.data_model.specs.declared.parameters.Subspace.{Subspace}
use Rattle.data_model.specs.declared.area.Area.{Area}
use Rattle.data_model.specs.declared.range_3d.Range3d.{Range3d}
use Rattle.tree.specs.Stored.{Stored, same_entry}
use Rattle.data_model.specs.declared.query_ignore_params.QueryIgnoreParams.{QueryIgnoreParams}

-- It makes an entry obsolete: of its subspace, at a prefix of its path or the path itself, and newer.
unfoldable pub outdates : Entry → Stored → Bool
outdates e s = prunes s.entry e

-- An entry removes it, as the Willow Data Model says: it stands at the entry's path or an extension, and is strictly older. An entry that ties stays.
unfoldable pub removes : Entry → Stored → Bool
removes e s = prunes e s.entry

-- An entry repeats it: the same subspace, path, timestamp, digest and length, whatever the token, the available length and the origin.
unfoldable pub repeats : Entry → Stored → Bool
repeats e s = same_entry e s.entry

unfoldable pub stands_at : Subspace → Components → Stored → Bool
stands_at s p x = same_subspace x.entry.subspace s && same_path x.entry.path p

unfoldable pub in_area : Area → Stored → Bool
in_area a x = area_includes a x.entry.subspace x.entry.path x.entry.rank.timestamp

unfoldable pub in_range : Range3d → Stored → Bool
in_range r x = range_includes r x.entry.subspace x.entry.path x.entry.rank.timestamp

-- An absent protected area protects nothing, and is not looked at.
unfoldable pub is_forgotten : Area → (protects : Bool) → Area → Stored → Bool
is_forgotten a protects p x = in_area a x && not (cond protects (in_area p x) false)

-- Ignored: with less of its payload available than there is, if the first flag says so; of an empty payload, if the second does.
unfoldable pub let_through : QueryIgnoreParams → Stored → Bool
let_through g x =
    not (g.ignore_incomplete_payloads && ltb x.available x.entry.rank.payload_length) &&
    not (g.ignore_empty_payloads && same_number x.entry.rank.payload_length 0)

unfoldable pub listed_in_area : Area → QueryIgnoreParams → Stored → Bool
listed_in_area a g x = in_area a x && let_through g x

unfoldable pub listed_in_range : Range3d → QueryIgnoreParams → Stored → Bool
listed_in_range r g x = in_range r x && let_through g x
