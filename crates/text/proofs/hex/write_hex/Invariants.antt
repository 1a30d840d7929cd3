-- `write_hex` meets its contract. The invariant: what is written so far, with the digits of the bytes left, are the digits of all. Assumes nothing.
use Prim.Native.Nat.{◌*◌}
use mathlib.Core.Path.{◌≡◌}
use lib.ListN.{drop}
use Rattle.text.specs.Hex.{hex_text}
use Rattle.laws.proofs.Lists.{Wrote}
use Rattle.text.proofs.hex.write_hex.Given as goal

abbrev pub invariant-loop-b : goal.invariant-loop-b
invariant-loop-b l = (l.at ≡ 2 * l.b-index) × Wrote (hex_text l.s) (hex_text (drop l.b-index l.s)) l.initial.out l.out l.at
