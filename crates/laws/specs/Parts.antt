-- Where a part of a lent slice lies.
use Rattle.std.specs.Prelude.{ℕ, ◌+◌, ◌≡◌}

-- A part begins at an offset: it lies in the slice's own memory, so many bytes behind the slice's first. (An address is a block of memory and a place in it.)
abbrev pub PartBegins : (whole part : ℕ × ℕ) → (offset : ℕ) → Type 0
PartBegins whole part offset = (part.0 ≡ whole.0) × (part.1 ≡ whole.1 + offset)
