-- 02, U1: the tally of a store. For each subspace with entries, in ascending order, how many they are and the newest of their timestamps.
use Rattle.std.specs.Prelude.{ℕ, suc, ◌*◌, ◌≤◌, ◌≡◌, ◌↔◌, List, [], ◌∷◌, ◌++◌, map, Bool, cond, length, take, drop, ltb}
use Rattle.laws.specs.Order.{Order, less, same, greater, below}
use Rattle.laws.specs.Prefix.{same_number, same_list}
use Rattle.laws.specs.Sorted.{◌∈◌, keep, Ascends}
use Rattle.layout.specs.Buffers.{filled}
use Rattle.layout.specs.Layout.{joined}
use Rattle.data_model.specs.Subspace.{same_subspace, by_subspace}
use Rattle.data_model.specs.declared.parameters.Subspace.{Subspace}
use Rattle.keys.specs.Encode.{be, subspace_key}
use Rattle.tree.specs.Stored.{Stored}
use Rattle.tally.specs.declared.item.Item.{Item}

-- The later of two timestamps.
unfoldable pub later_of : ℕ → ℕ → ℕ
later_of a b = cond (ltb a b) b a

-- The item of one entry, and an item with one entry more.
abbrev pub item_of : Stored → Item
item_of x = record { subspace = x.entry.subspace; count = 1; newest = x.entry.rank.timestamp }

abbrev pub with_one : Stored → Item → Item
with_one x i = record { subspace = i.subspace; count = suc i.count; newest = later_of x.entry.rank.timestamp i.newest }

-- One entry more in ascending items: in the item of its subspace, or in one of its own at its place. The order says how its subspace stands to that of the
-- first item.
abbrev entering : Order → Stored → Item → List Item → (behind : List Item) → List Item
entering less x i l behind = item_of x ∷ i ∷ l
entering same x i l behind = with_one x i ∷ l
entering greater x i l behind = i ∷ behind

unfoldable pub enter : Stored → List Item → List Item
enter x [] = item_of x ∷ []
enter x (i ∷ l) = entering (by_subspace x.entry.subspace i.subspace) x i l (enter x l)

-- The items of a list of entries, whatever their order.
unfoldable pub tally_of : List Stored → List Item
tally_of [] = []
tally_of (x ∷ l) = enter x (tally_of l)

-- 16 bytes subspace, 4 bytes count, 8 bytes newest timestamp, big-endian.
unfoldable pub item_bytes : Item → List ℕ
item_bytes i = subspace_key i.subspace ++ (be 4 i.count ++ be 8 i.newest)

-- The bytes of an item, and those that a limit is given.
abbrev pub item_length : ℕ
item_length = 28

abbrev pub tally_room : (limit : ℕ) → ℕ
tally_room limit = item_length * limit

-- The tally in n bytes: its items, and zeros behind the last.
unfoldable pub tally_in : (n : ℕ) → List Stored → List ℕ
tally_in n l = filled n (joined (map item_bytes (tally_of l)))

abbrev pub tally_bytes : (limit : ℕ) → List Stored → List ℕ
tally_bytes limit l = tally_in (tally_room limit) l

-- Whether a buffer has the tally of these entries in the limit's room. What stands beyond is not looked at.
unfoldable pub tally_right : (limit : ℕ) → List Stored → (tally : List ℕ) → Bool
tally_right limit l tally = same_list same_number (take (tally_room limit) tally) (tally_bytes limit l)

-- A buffer with the tally of these entries in the limit's room, and what stood beyond it.
unfoldable pub tally_holding : (limit : ℕ) → List Stored → (old : List ℕ) → List ℕ
tally_holding limit l old = tally_bytes limit l ++ drop (tally_room limit) old

-- What the items say, in words (theorem `tally-said`): their subspaces ascend; a subspace has an item exactly if an entry of it is there; its count is the
-- number of those; its newest timestamp is that of one of them, and none is later.
abbrev pub item_below : Item → Item → Bool
item_below i j = below by_subspace i.subspace j.subspace

pub record TallySaid (l : List Stored) : Type 0 where
  pub ascends : Ascends item_below (tally_of l)
  pub subspaces : (s : Subspace) → ((i : Item) × i ∈ tally_of l × (i.subspace ≡ s)) ↔ ((x : Stored) × x ∈ l × (x.entry.subspace ≡ s))
  pub counts : (i : Item) → i ∈ tally_of l → i.count ≡ length (keep (λ (x : Stored). same_subspace x.entry.subspace i.subspace) l)
  pub newest : (i : Item) → i ∈ tally_of l → (x : Stored) × x ∈ l × (x.entry.subspace ≡ i.subspace) × (x.entry.rank.timestamp ≡ i.newest)
  pub none_later : (i : Item) → i ∈ tally_of l → (x : Stored) → x ∈ l → x.entry.subspace ≡ i.subspace → x.entry.rank.timestamp ≤ i.newest
