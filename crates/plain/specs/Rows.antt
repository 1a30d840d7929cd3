-- A row of two numbers as the pair of an offset and a length.
use Rattle.std.specs.Prelude.{ℕ, List, get_or}
use Rattle.pairs.specs.Pairs.{pair}
use Rattle.pairs.specs.declared.Pair.{Pair}

abbrev pub pair_of : List ℕ → Pair
pair_of row = pair (get_or row 0 0) (get_or row 1 0)
