-- Lists: membership, a test of some element, filtering, insertion by a test, strict ascent.
use Rattle.std.specs.Prelude.{◌≡◌, Bool, true, false, cond, ◌&&◌, ◌||◌}
use mathlib.Core.List.{List, [], ◌∷◌, Memᴰ}

module _ {A : Type 0} where
  infix 45 ◌∈◌
  abbrev pub ◌∈◌ : A → List A → Type 0
  x ∈ l = Memᴰ x l

  unfoldable pub any : (A → Bool) → List A → Bool
  any p [] = false
  any p (a ∷ l) = p a || any p l

  unfoldable pub all : (A → Bool) → List A → Bool
  all p [] = true
  all p (a ∷ l) = p a && all p l

  unfoldable pub keep : (A → Bool) → List A → List A
  keep p [] = []
  keep p (a ∷ l) = cond (p a) (a ∷ keep p l) (keep p l)

  -- Before the first element that it is below.
  unfoldable pub insert : (A → A → Bool) → A → List A → List A
  insert test e [] = e ∷ []
  insert test e (a ∷ l) = cond (test e a) (e ∷ a ∷ l) (a ∷ insert test e l)

  -- Each element is below the next one: a test that looks at neighbours.
  unfoldable pub ascending : (A → A → Bool) → List A → Bool
  ascending test [] = true
  ascending test (a ∷ []) = true
  ascending test (a ∷ b ∷ l) = test a b && ascending test (b ∷ l)

  -- Each element is below every later one.
  unfoldable pub Ascends : (A → A → Bool) → List A → Type 0
  Ascends test [] = Unit {0}
  Ascends test (a ∷ l) = ((x : A) → x ∈ l → test a x ≡ true) × Ascends test l
