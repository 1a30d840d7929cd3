-- `within_by` meets its contract. The invariant: what is within is so exactly if what is left is. Assumes nothing.
use mathlib.Core.Path.{◌≡◌}
use lib.ListN.{length, drop}
use Rattle.layout.specs.Layout.{records}
use Rattle.data_model.specs.Path.{field}
use Rattle.tree.specs.Stored.{contents}
use Rattle.tree.specs.Tree.{within}
use Rattle.tree.proofs.stored.Tree.within_by.Given as goal

abbrev pub invariant-loop-k : goal.invariant-loop-k
invariant-loop-k l =
    let a = contents l.self.order field l.namespace (records l.self.count l.self.dir.now l.self.bytes.now) in
    let b = contents l.other.order field l.namespace (records l.other.count l.other.dir.now l.other.bytes.now) in
    (length l.next ≡ length l.initial.next) × (within a b ≡ within (drop l.k a) b)
