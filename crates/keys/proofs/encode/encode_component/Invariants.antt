-- `encode_component` meets its contract. The invariant: what is written so far, with the key of the bytes left, is the key of the component. Assumes nothing.
use Prim.Native.Nat.{◌≤◌, ◌*◌}
use lib.ListN.{drop}
use Rattle.keys.specs.Encode.{component_key}
use Rattle.laws.proofs.Lists.{Wrote}
use Rattle.keys.proofs.encode.encode_component.Given as goal

abbrev pub invariant-loop-b : goal.invariant-loop-b
invariant-loop-b l = (l.at ≤ 2 * l.b-index) × Wrote (component_key l.c) (component_key (drop l.b-index l.c)) l.initial.out l.out l.at
