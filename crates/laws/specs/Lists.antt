-- Pieces of lists, and buffers that are written from the front.
use Rattle.std.specs.Prelude.{ℕ, ◌-◌, List, ◌++◌, length, take, drop}

module _ {A : Type 0} where
  -- What stands from one place up to another.
  abbrev pub piece : ℕ → ℕ → List A → List A
  piece from to l = take (to - from) (drop from l)

  -- A buffer after xs was written at its front: the rest is as it was.
  unfoldable pub put : List A → List A → List A
  put xs old = xs ++ drop (length xs) old
