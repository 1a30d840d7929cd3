-- `last_below` meets its contract: no byte from j on can be raised. Assumes nothing.
use mathlib.Core.Path.{◌≡◌}
use mathlib.Core.Option.{none}
use lib.ListN.{drop}
use Rattle.data_model.specs.Above.{raised_bytes}
use Rattle.data_model.proofs.above.last_below.Given as goal

abbrev pub invariant-loop-j : goal.invariant-loop-j
invariant-loop-j l = raised_bytes (drop l.j l.c) ≡ none
