-- Rows as pairs: a loop that writes rows writes pairs. Assumes nothing.
use Prim.Native.Nat.{ℕ, zero, suc, ◌+◌, ◌*◌, ◌≤◌}
use mathlib.Core.Path.{◌≡◌, refl, sym, ap, ◌∙◌}
use mathlib.Core.List.{List, [], ◌∷◌, map}
use native.Mathlib.Numerals.{add-one}
use native.Mathlib.Omega.{arith}
use lib.ListN.{length, take, get_or, set}
use Rattle.laws.specs.Lists.{put}
use Rattle.pairs.specs.Pairs.{pairs_of}
use Rattle.pairs.specs.declared.Pair.{Pair}
use Rattle.pairs.proofs.PairLaws.{pair_at, pairs_into, into-put}
use Rattle.plain.specs.Rows.{pair_of}

pub length-map : (rows : List (List ℕ)) → length (map pair_of rows) ≡ length rows
length-map [] = refl
length-map (r ∷ rows) = ap suc (length-map rows)

map-set : (rows : List (List ℕ)) (k : ℕ) (row : List ℕ) → map pair_of (set rows k row) ≡ set (map pair_of rows) k (pair_of row)
map-set [] k row = refl
map-set (r ∷ rows) zero row = refl
map-set (r ∷ rows) (suc k) row = ap (pair_of r ∷◌) (map-set rows k row)

-- A turn.
pub row-turn : (ns : List ℕ) (rows old : List (List ℕ)) (k : ℕ) → map pair_of rows ≡ pairs_into ns (map pair_of old) k → map pair_of (set rows k (get_or ns (2 * k) 0 ∷ get_or ns (2 * k + 1) 0 ∷ [])) ≡ pairs_into ns (map pair_of old) (k + 1)
unfolding pairs_into
row-turn ns rows old k e =
    map-set rows k (get_or ns (2 * k) 0 ∷ get_or ns (2 * k + 1) 0 ∷ [])
    ∙ ap (λ (l : List Pair). set l k (pair_at ns k)) e
    ∙ ap (pairs_into ns (map pair_of old)) (sym (add-one k))

pub rows_start : (ns : List ℕ) (old : List (List ℕ)) → map pair_of old ≡ pairs_into ns (map pair_of old) 0
unfolding pairs_into
rows_start ns old = refl

pub rows_end : (ns : List ℕ) (old : List (List ℕ)) (n : ℕ) → 2 * n ≤ length ns → n ≤ length old → (w : List Pair) → w ≡ pairs_into ns (map pair_of old) n → w ≡ put (pairs_of (take (2 * n) ns)) (map pair_of old)
rows_end ns old n h g w e = e ∙ into-put ns (map pair_of old) n h (let l = length-map old in omega arith)
