-- The fields of a line: what stands between the single bytes that part them. Where two such bytes meet, a field is empty.
use Rattle.std.specs.Prelude.{ℕ, List, [], ◌∷◌, cond, eqb}

-- A byte more at the front of the first field.
abbrev pub on_first : ℕ → List (List ℕ) → List (List ℕ)
on_first b [] = (b ∷ []) ∷ []
on_first b (f ∷ fs) = (b ∷ f) ∷ fs

unfoldable pub fields : ℕ → List ℕ → List (List ℕ)
fields sep [] = [] ∷ []
fields sep (b ∷ s) = cond (eqb b sep) ([] ∷ fields sep s) (on_first b (fields sep s))

-- The first field.
unfoldable pub front : ℕ → List ℕ → List ℕ
front sep [] = []
front sep (b ∷ s) = cond (eqb b sep) [] (b ∷ front sep s)
