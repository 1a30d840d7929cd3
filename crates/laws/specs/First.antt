-- Of the elements that a test holds of, the first in the list's order, and the least by an order of their own.
use Rattle.std.specs.Prelude.{Bool, cond, List, [], ◌∷◌}
use Rattle.std.proofs.Math.Option.{Option, some, none}

module _ {A : Type 0} where
  -- The first.
  unfoldable pub first_that : (A → Bool) → List A → Option A
  first_that p [] = none
  first_that p (a ∷ l) = cond (p a) (some a) (first_that p l)

  -- Of an element and another one, if there is one: the other if it is below, else the element.
  unfoldable pub lesser : (below : A → A → Bool) → A → Option A → Option A
  lesser below a none = some a
  lesser below a (some b) = cond (below b a) (some b) (some a)

  -- The least, in whatever order they stand.
  unfoldable pub least_that : (below : A → A → Bool) → (A → Bool) → List A → Option A
  least_that below p [] = none
  least_that below p (a ∷ l) = cond (p a) (lesser below a (least_that below p l)) (least_that below p l)
