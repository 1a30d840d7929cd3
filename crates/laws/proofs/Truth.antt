-- Tests: a test holds where it is `≡ true`. Assumes nothing.
use mathlib.Core.Path.{◌≡◌, refl, sym, ◌∙◌}
use mathlib.Core.Bool.{Bool, true, false, not, ◌&&◌, true≢false}

module _ {G : Type 0} where
  -- A case distinction on a test, each case with its equation.
  pub split : (b : Bool) → (b ≡ true → G) → (b ≡ false → G) → G
  split true y n = y refl
  split false y n = n refl

  pub clash : {b : Bool} → b ≡ true → b ≡ false → G
  clash p q = absurd (true≢false (sym p ∙ q))

pub refute : (b : Bool) → (b ≡ true → ⊥) → b ≡ false
refute true h = absurd (h refl)
refute false h = refl

pub and-true : (a b : Bool) → (a && b) ≡ true → (a ≡ true) × (b ≡ true)
and-true true b e = (refl, e)
and-true false b e = clash e refl

pub not-true : (b : Bool) → not b ≡ true → b ≡ false
not-true true e = sym e
not-true false e = refl

pub not-false : (b : Bool) → not b ≡ false → b ≡ true
not-false true e = refl
not-false false e = sym e

-- For `search`: a test cannot both hold and fail.
pub differ : (b : Bool) → b ≡ true → b ≡ false → ⊥
differ b p q = true≢false (sym p ∙ q)

-- Tests are equal if each holds where the other does.
pub alike : (a b : Bool) → (a ≡ true → b ≡ true) → (b ≡ true → a ≡ true) → a ≡ b
alike true b f g = sym (f refl)
alike false true f g = g refl
alike false false f g = refl
