-- An answer in 01's words. "Each returns its number": the number of a refusal; or the number 0, and the values that the call answers.
use Rattle.std.specs.Prelude.{ℕ}

pub data Said (A : Type 0) : Type 0 where
  refuses : (number : ℕ) → Said A
  says : (values : A) → Said A

-- The number that an answer has.
unfoldable pub number_of : {A : Type 0} → Said A → ℕ
number_of (refuses n) = n
number_of (says a) = 0
