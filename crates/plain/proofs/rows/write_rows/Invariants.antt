-- `write_rows` meets its contract: after k turns the rows hold k pairs. Assumes nothing.
use mathlib.Core.Path.{◌≡◌}
use mathlib.Core.List.{map}
use lib.ListN.{length}
use Rattle.pairs.proofs.PairLaws.{pairs_into}
use Rattle.plain.specs.Rows.{pair_of}
use Rattle.plain.proofs.rows.write_rows.Given as goal

abbrev pub invariant-loop-k : goal.invariant-loop-k
invariant-loop-k l = (length l.rows ≡ length l.initial.rows) × (map pair_of l.rows ≡ pairs_into l.numbers (map pair_of l.initial.rows) l.k)
