-- `encode_components` meets its contract. The invariant: what is written so far, with the key of the components left, is the path's key. Assumes nothing.
use Prim.Native.Nat.{◌≤◌, ◌*◌, ◌+◌}
use mathlib.Core.Path.{◌≡◌}
use mathlib.Core.Bool.{true}
use lib.ListN.{length, drop}
use Rattle.data_model.specs.Path.{legal_ends, cut}
use Rattle.keys.specs.Encode.{path_key}
use Rattle.laws.proofs.Lists.{Wrote}
use Rattle.keys.proofs.encode.encode_components.Given as goal

abbrev pub invariant-loop-end : goal.invariant-loop-end
invariant-loop-end l =
    (l.at ≤ 2 * l.from + 2 * l.end-index)
    × (legal_ends (length l.bytes) (length l.bytes) l.from (drop l.end-index l.ends) ≡ true)
    × Wrote (path_key (cut l.bytes 0 l.ends)) (path_key (cut l.bytes l.from (drop l.end-index l.ends))) l.initial.out l.out l.at
