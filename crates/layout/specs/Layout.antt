-- Records in two buffers: the bytes of one after the other and zeros behind, a pair of offset and length for each and zeros behind.
use Rattle.std.specs.Prelude.{◌≡◌, List, [], ◌∷◌, ◌++◌, Bool, true, false, ◌&&◌, ℕ, zero, suc, ◌+◌, ◌-◌, ◌*◌, ◌^◌, ◌≤◌, ◌<◌, length, take, drop, get_or, leb, eqb}
use Rattle.layout.specs.Buffers.{filled, all_zero}

-- What the first n pairs of a directory cut out of the bytes.
abbrev pub records : ℕ → List ℕ → List ℕ → List (List ℕ)
records zero dir tree = []
records (suc n) [] tree = []
records (suc n) (o ∷ []) tree = []
records (suc n) (o ∷ l ∷ dir) tree = take l (drop o tree) ∷ records n dir tree

-- What pair k cuts out, at which offset, and how many bytes.
abbrev pub record_at : ℕ → List ℕ → List ℕ → List ℕ
record_at k dir tree = take (get_or dir (2 * k + 1) 0) (drop (get_or dir (2 * k) 0) tree)

abbrev pub offset_at : ℕ → List ℕ → ℕ
offset_at k dir = get_or dir (2 * k) 0

abbrev pub length_at : ℕ → List ℕ → ℕ
length_at k dir = get_or dir (2 * k + 1) 0

-- Pair k is there, and what it cuts out lies within the bytes.
pub record CutsOut (k : ℕ) (dir tree : List ℕ) : Type 0 where
  pub pair : 2 * k + 1 < length dir
  pub inside : get_or dir (2 * k) 0 + get_or dir (2 * k + 1) 0 ≤ length tree

-- The records one after the other, and a pair for each: the first at offset `at`, each other where the one before ends.
abbrev pub joined : List (List ℕ) → List ℕ
joined [] = []
joined (r ∷ rs) = r ++ joined rs

abbrev pub pairs : ℕ → List (List ℕ) → List ℕ
pairs at [] = []
pairs at (r ∷ rs) = at ∷ length r ∷ pairs (at + length r) rs

-- The n bytes of a tree that holds these records, and the n numbers of its directory.
unfoldable pub tree_bytes : ℕ → List (List ℕ) → List ℕ
tree_bytes n recs = filled n (joined recs)

unfoldable pub dir_numbers : ℕ → List (List ℕ) → List ℕ
dir_numbers n recs = filled n (pairs 0 recs)

-- The first of n pairs begins at `at`, each other where the one before ends; and where the last one ends.
abbrev pub chained : ℕ → ℕ → List ℕ → Bool
chained zero at dir = true
chained (suc n) at [] = false
chained (suc n) at (o ∷ []) = false
chained (suc n) at (o ∷ l ∷ dir) = eqb o at && chained n (at + l) dir

abbrev pub ending : ℕ → ℕ → List ℕ → ℕ
ending zero at dir = at
ending (suc n) at [] = at
ending (suc n) at (o ∷ []) = at
ending (suc n) at (o ∷ l ∷ dir) = ending n (at + l) dir

-- A chain of n pairs from 0 on that ends within the bytes, and zeros behind the last record and behind the last pair.
unfoldable pub laid_out : ℕ → List ℕ → List ℕ → Bool
laid_out n dir tree = chained n 0 dir && (leb (ending n 0 dir) (length tree) && (all_zero (drop (ending n 0 dir) tree) && all_zero (drop (2 * n) dir)))

-- What an edit of the records asks: they are laid out so, and 32 bits count the bytes.
pub record Editable (n : ℕ) (dir tree : List ℕ) : Type 0 where
  pub laid : laid_out n dir tree ≡ true
  pub small : length tree < 2 ^ 32

-- With one more record at place `at`.
abbrev pub inserted : ℕ → List ℕ → List (List ℕ) → List (List ℕ)
inserted at r recs = take at recs ++ r ∷ drop at recs

-- Where the first k records end, by their pairs.
abbrev pub end_at : ℕ → List ℕ → ℕ
end_at zero dir = 0
end_at (suc k) dir = get_or dir (2 * k) 0 + get_or dir (2 * k + 1) 0

-- The lengths in n pairs, pairs of these lengths from `at` on, and where they end.
abbrev pub sizes : ℕ → List ℕ → List ℕ
sizes zero dir = []
sizes (suc n) [] = []
sizes (suc n) (o ∷ []) = []
sizes (suc n) (o ∷ l ∷ dir) = l ∷ sizes n dir

abbrev pub pairs_of : ℕ → List ℕ → List ℕ
pairs_of at [] = []
pairs_of at (l ∷ ls) = at ∷ l ∷ pairs_of (at + l) ls

abbrev pub end_of : ℕ → List ℕ → ℕ
end_of at [] = at
end_of at (l ∷ ls) = end_of (at + l) ls

-- A directory of `count` pairs with one more at place `at`, the later ones moved on.
unfoldable pub opened : ℕ → ℕ → ℕ → ℕ → List ℕ → List ℕ
opened count at o l dir = take (2 * at) dir ++ pairs_of o (l ∷ sizes (count - at) (drop (2 * at) dir)) ++ drop (2 * (count + 1)) dir
