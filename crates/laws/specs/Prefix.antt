-- Tests of equality, and of one list being the beginning of another.
use Rattle.std.specs.Prelude.{◌≡◌, List, [], ◌∷◌, Bool, true, false, ◌&&◌, ℕ, eqb}

pub record Equality (A : Type 0) (eq : A → A → Bool) : Type 0 where
  pub self : (a : A) → eq a a ≡ true
  pub equal : (a b : A) → eq a b ≡ true → a ≡ b

unfoldable pub same_number : ℕ → ℕ → Bool
same_number a b = eqb a b

unfoldable pub same_list : {A : Type 0} → (A → A → Bool) → List A → List A → Bool
same_list eq [] [] = true
same_list eq [] (b ∷ t) = false
same_list eq (a ∷ s) [] = false
same_list eq (a ∷ s) (b ∷ t) = eq a b && same_list eq s t

-- The second list is the first, or begins with it.
unfoldable pub prefix_of : {A : Type 0} → (A → A → Bool) → List A → List A → Bool
prefix_of eq [] t = true
prefix_of eq (a ∷ s) [] = false
prefix_of eq (a ∷ s) (b ∷ t) = eq a b && prefix_of eq s t
