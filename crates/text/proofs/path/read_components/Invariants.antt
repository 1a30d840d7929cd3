-- `read_components` meets its contract. The invariant: the components filled in so far, and those left. Assumes nothing.
use Prim.Native.Nat.{◌≤◌}
use mathlib.Core.Path.{◌≡◌}
use mathlib.Core.Bool.{true}
use mathlib.Core.List.{map}
use lib.ListN.{length, drop}
use Rattle.laws.specs.Sorted.{all}
use Rattle.text.specs.Hex.{hex_of}
use Rattle.text.specs.Fields.{fields}
use Rattle.text.specs.PathField.{slash, is_component_field}
use Rattle.text.proofs.Filling.{Filling}
use Rattle.text.proofs.path.read_components.Given as goal

abbrev pub invariant-loop-n : goal.invariant-loop-n
invariant-loop-n l = (l.at ≤ length l.s) × (all is_component_field (fields slash (drop l.at l.s)) ≡ true) × Filling (map hex_of (fields slash l.s)) (map hex_of (fields slash (drop l.at l.s))) l.initial.bytes l.initial.ends l.bytes l.ends l.total l.n
