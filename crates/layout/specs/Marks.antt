-- A mark for each element of a list, 1 or another number: what the marks leave, which come first, how many there are.
use Rattle.std.specs.Prelude.{List, [], ◌∷◌, Bool, cond, ℕ, suc, eqb}

module _ {A : Type 0} where
  -- 1 for each element that the test holds of, 0 for the others.
  abbrev pub marks_of : (A → Bool) → List A → List ℕ
  marks_of p [] = []
  marks_of p (a ∷ l) = cond (p a) 1 0 ∷ marks_of p l

  -- The elements whose mark is not 1.
  abbrev pub kept : List ℕ → List A → List A
  kept marks [] = []
  kept [] (a ∷ l) = a ∷ l
  kept (m ∷ marks) (a ∷ l) = cond (eqb m 1) (kept marks l) (a ∷ kept marks l)

  -- The elements whose mark is 1.
  abbrev pub selected : List ℕ → List A → List A
  selected marks [] = []
  selected [] (a ∷ l) = []
  selected (m ∷ marks) (a ∷ l) = cond (eqb m 1) (a ∷ selected marks l) (selected marks l)

-- The place of the first mark 1, or how many marks there are.
abbrev pub first_mark : List ℕ → ℕ
first_mark [] = 0
first_mark (m ∷ ms) = cond (eqb m 1) 0 (suc (first_mark ms))

-- How many marks are 1.
abbrev pub count_marks : List ℕ → ℕ
count_marks [] = 0
count_marks (m ∷ ms) = cond (eqb m 1) (suc (count_marks ms)) (count_marks ms)

-- The pairs, offset and length, whose mark is 1.
abbrev pub marked_pairs : List ℕ → List ℕ → List ℕ
marked_pairs [] dir = []
marked_pairs (m ∷ ms) [] = []
marked_pairs (m ∷ ms) (o ∷ []) = []
marked_pairs (m ∷ ms) (o ∷ l ∷ dir) = cond (eqb m 1) (o ∷ l ∷ marked_pairs ms dir) (marked_pairs ms dir)

-- Marks without those that others take away: where the other is 1, the mark is 0.
unfoldable pub unmarked : (marks other : List ℕ) → List ℕ
unmarked [] other = []
unmarked (m ∷ ms) [] = m ∷ ms
unmarked (m ∷ ms) (o ∷ os) = cond (eqb o 1) 0 m ∷ unmarked ms os
