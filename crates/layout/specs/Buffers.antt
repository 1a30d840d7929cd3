-- Buffers after a move, a clearing and a writing inside them; zeros.
use Rattle.std.specs.Prelude.{List, [], ◌∷◌, ◌++◌, Bool, true, ◌&&◌, ℕ, ◌+◌, ◌-◌, length, take, drop, replicate, eqb}

-- With the n elements from `from` on written once more from `to` on.
unfoldable pub moved : ℕ → ℕ → ℕ → List ℕ → List ℕ
moved from to n l = take to l ++ take n (drop from l) ++ drop (to + n) l

-- With zeros from `from` up to `to`.
unfoldable pub cleared : ℕ → ℕ → List ℕ → List ℕ
cleared from to l = take from l ++ replicate (to - from) 0 ++ drop to l

-- With s from `at` on.
unfoldable pub written : ℕ → List ℕ → List ℕ → List ℕ
written at s l = take at l ++ s ++ drop (at + length s) l

-- These, and zeros up to n in all.
unfoldable pub filled : ℕ → List ℕ → List ℕ
filled n xs = xs ++ replicate (n - length xs) 0

unfoldable pub all_zero : List ℕ → Bool
all_zero [] = true
all_zero (x ∷ xs) = eqb x 0 && all_zero xs
