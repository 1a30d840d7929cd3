-- Where an entry came from: 02, U6. A kind, 0 local or 1 remote, and a session number, which is 0 for local.
use Rattle.std.specs.Prelude.{ℕ, Bool, cond, ◌&&◌, eqb}
use Rattle.laws.specs.Prefix.{same_number}
use Rattle.data_model.specs.declared.entry_origin.EntryOrigin.{EntryOrigin}
use Rattle.data_model.specs.declared.entry_origin.EntryOrigin.TheVariants.{Local, Remote}

-- The numbers of the two kinds.
abbrev pub local_kind : ℕ
local_kind = 0

abbrev pub remote_kind : ℕ
remote_kind = 1

-- What each case of an origin says: the number of its kind, and its session.
unfoldable pub origin_kind : EntryOrigin → ℕ
origin_kind Local = local_kind
origin_kind (Remote session) = remote_kind

unfoldable pub origin_session : EntryOrigin → ℕ
origin_session Local = 0
origin_session (Remote session) = session

-- Which kind and session are those of an origin: local with number 0, or remote with any number.
unfoldable pub is_origin : (kind session : ℕ) → Bool
is_origin kind session = cond (eqb kind local_kind) (eqb session 0) (eqb kind remote_kind)

-- The origin that a kind and a session say, where they are those of one (`origin-back`, `origin-forth`).
unfoldable pub origin_of : (kind session : ℕ) → EntryOrigin
origin_of kind session = cond (eqb kind local_kind) Local (Remote session)

-- Equality, as a test.
unfoldable pub same_origin : EntryOrigin → EntryOrigin → Bool
same_origin a b = same_number (origin_kind a) (origin_kind b) && same_number (origin_session a) (origin_session b)
