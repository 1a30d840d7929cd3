-- Lists of bytes, as the elements of a slice of bytes are known to be.
use Rattle.std.specs.Prelude.{ℕ, ◌<◌, List, get_or}

abbrev pub Bytes : List ℕ → Type 0
Bytes k = (i : ℕ) → get_or k i 0 < 256
