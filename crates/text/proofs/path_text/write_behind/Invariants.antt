-- `write_behind` meets its contract. The invariant: what is written so far, with the text of the components left, is the text of all. Assumes nothing.
use Prim.Native.Nat.{◌≤◌, ◌*◌, ◌+◌}
use mathlib.Core.Path.{◌≡◌}
use mathlib.Core.Bool.{true}
use lib.ListN.{length, drop}
use Rattle.laws.proofs.Lists.{Wrote}
use Rattle.data_model.specs.Path.{cut, legal_ends}
use Rattle.text.specs.PathText.{behind_text}
use Rattle.text.proofs.path_text.write_behind.Given as goal

abbrev pub invariant-loop-end : goal.invariant-loop-end
invariant-loop-end l =
    (l.at + 2 * l.start ≤ 2 * l.from + 2 * l.end-index)
    × (legal_ends (length l.bytes) (length l.bytes) l.from (drop l.end-index l.ends) ≡ true)
    × Wrote (behind_text (cut l.bytes l.start l.ends)) (behind_text (cut l.bytes l.from (drop l.end-index l.ends))) l.initial.out l.out l.at
