-- `read_digits` meets its contract. The invariant: the digits left follow those of the number so far. Assumes nothing.
use Prim.Native.Nat.{◌^◌, ◌<◌}
use mathlib.Core.Path.{◌≡◌}
use lib.ListN.{drop}
use Rattle.text.specs.Decimal.{number_from}
use Rattle.text.proofs.decimal.read_digits.Given as goal

abbrev pub invariant-loop-b : goal.invariant-loop-b
invariant-loop-b l = (l.n < 2 ^ 64) × (number_from 0 l.s ≡ number_from l.n (drop l.b-index l.s))
