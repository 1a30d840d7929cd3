-- Three-way comparison: of numbers, of pairs, of lists; and what it takes to be a linear order.
use Rattle.std.specs.Prelude.{ℕ, ◌≡◌, List, [], ◌∷◌, Bool, true, false, cond, ltb}

-- How the first of two things stands to the second.
pub data Order : Type 0 where
  less same greater : Order

-- By the first comparison, and by the second where the first says same.
infixr 30 ◌then◌
abbrev pub ◌then◌ : Order → Order → Order
less then o = less
same then o = o
greater then o = greater

-- How the second stands to the first.
unfoldable pub flip : Order → Order
flip less = greater
flip same = same
flip greater = less

unfoldable pub is_less : Order → Bool
is_less less = true
is_less same = false
is_less greater = false

unfoldable pub is_same : Order → Bool
is_same less = false
is_same same = true
is_same greater = false

unfoldable pub is_greater : Order → Bool
is_greater less = false
is_greater same = false
is_greater greater = true

unfoldable pub by_number : ℕ → ℕ → Order
by_number a b = cond (ltb a b) less (cond (ltb b a) greater same)

-- By the first parts, then by the second.
unfoldable pub by_pair : {A B : Type 0} → (A → A → Order) → (B → B → Order) → A × B → A × B → Order
by_pair o p x y = o x.0 y.0 then p x.1 y.1

-- Lexicographic: by the first element that differs; a list comes before its extensions.
unfoldable pub by_elements : {A : Type 0} → (A → A → Order) → List A → List A → Order
by_elements o [] [] = same
by_elements o [] (b ∷ l) = less
by_elements o (a ∷ k) [] = greater
by_elements o (a ∷ k) (b ∷ l) = o a b then by_elements o k l

-- By what is read off each.
abbrev pub on : {A B : Type 0} → (B → A) → (A → A → Order) → B → B → Order
on f o a b = o (f a) (f b)

-- The test that a comparison gives.
unfoldable pub below : {A : Type 0} → (A → A → Order) → A → A → Bool
below o a b = is_less (o a b)

pub record Linear (A : Type 0) (o : A → A → Order) : Type 0 where
  pub self : (a : A) → o a a ≡ same
  pub equal : (a b : A) → o a b ≡ same → a ≡ b
  pub flips : (a b : A) → o b a ≡ flip (o a b)
  pub trans : (a b c : A) → o a b ≡ less → o b c ≡ less → o a c ≡ less

pub record Strict (A : Type 0) (test : A → A → Bool) : Type 0 where
  pub irrefl : (a : A) → test a a ≡ false
  pub trans : (a b c : A) → test a b ≡ true → test b c ≡ true → test a c ≡ true
