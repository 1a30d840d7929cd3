-- `digits_behind` meets its contract. The invariant: the digits of what is left, with those behind, are all. Assumes nothing.
use Prim.Native.Nat.{◌^◌, ◌≤◌, ◌<◌}
use mathlib.Core.Path.{◌≡◌}
use mathlib.Core.List.{◌++◌}
use lib.ListN.{length, drop}
use Rattle.text.specs.Decimal.{digits, decimal_text}
use Rattle.text.proofs.decimal.digits_behind.Given as goal

abbrev pub invariant-loop-rest : goal.invariant-loop-rest
invariant-loop-rest l = (length l.d ≡ 20) × (1 ≤ l.j) × (l.j ≤ 20) × (l.rest < 10 ^ l.j) × (l.rest < 2 ^ 64) × (decimal_text l.x ≡ digits l.j l.rest ++ drop l.j l.d)

abbrev pub decreases-loop-rest : goal.decreases-loop-rest
decreases-loop-rest l = l.rest
