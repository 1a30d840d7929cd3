-- 02, U4 and U6, by positions: two stores that are the same but for the last n bytes of each record have the same byte at every index that lies in none of these.
-- Theorem `differ-inside`, for every n within a value: `own_bytes`, the available length and the origin, and `origin_length`, the origin alone, among them.
use Rattle.std.specs.Prelude.{ℕ, suc, ◌+◌, ◌≤◌, ◌<◌, ◌≡◌, ◌⊎◌, get_or}
use Rattle.layout.specs.Layout.{end_at}
use Rattle.data_model.specs.Path.{Figures}
use Rattle.tree.specs.declared.stored.KeyOrder.{KeyOrder}
use Rattle.store.specs.Store.{Store, tree_of, dir_of, Tallied}

-- An index lies in the last n bytes of a record of a tree.
pub record InLast (n : ℕ) (k : KeyOrder) (s : Store) (i : ℕ) : Type 0 where
  pub number : ℕ
  pub among : number < s.state.count
  pub begins : end_at (suc number) (dir_of k s) ≤ i + n
  pub ends : i < end_at (suc number) (dir_of k s)

abbrev pub DifferInside : Figures → (n : ℕ) → (w v : Tallied) → Type 0
DifferInside f n w v = (k : KeyOrder) (i : ℕ) → (get_or (tree_of f k w.store) i 0 ≡ get_or (tree_of f k v.store) i 0) ⊎ InLast n k w.store i
