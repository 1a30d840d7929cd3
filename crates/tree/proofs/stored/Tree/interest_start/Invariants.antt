-- `interest_start` meets its contract. Assumes nothing.
use Prim.Native.Nat.{ℕ, ◌+◌, ◌≤◌}
use mathlib.Core.Path.{◌≡◌}
use mathlib.Core.List.{List, reverse}
use lib.ListN.{take}
use Rattle.layout.specs.Layout.{records}
use Rattle.layout.specs.Marks.{selected}
use Rattle.data_model.specs.Path.{field}
use Rattle.tree.specs.Stored.{contents}
use Rattle.tree.specs.Interest.{interest_from}
use Rattle.tree.proofs.stored.Tree.interest_start.Given as goal

abbrev pub invariant-loop-k : goal.invariant-loop-k
invariant-loop-k l =
    (l.k ≤ l.self.count)
    × (l.n + l.k ≤ l.self.count)
    × ((namespace : List ℕ)
    → interest_from l.max_count l.max_size 0 0 l.start (reverse (selected l.marks (contents l.self.order field namespace (records l.self.count l.self.dir.now l.self.bytes.now))))
    ≡ interest_from l.max_count l.max_size l.n l.size l.time (reverse (selected (take l.k l.marks) (take l.k (contents l.self.order field namespace (records l.self.count l.self.dir.now l.self.bytes.now))))))
