-- `mark_all` meets its contract: the marks so far, for whatever the test is of what a record says. Assumes nothing.
use Prim.Native.Nat.{ℕ, ◌<◌}
use mathlib.Core.Path.{◌≡◌}
use mathlib.Core.List.{List}
use mathlib.Core.Bool.{Bool}
use lib.ListN.{length}
use Rattle.layout.specs.Layout.{records, record_at}
use Rattle.data_model.specs.Path.{field}
use Rattle.tree.specs.Stored.{Stored, stored, contents}
use Rattle.tree.proofs.MarkingLaws.{Marking}
use Rattle.tree.proofs.stored.Tree.mark_all.Given as goal

abbrev pub invariant-loop-k : goal.invariant-loop-k
invariant-loop-k g l =
    (length l.marks ≡ length l.initial.marks)
    × ((p : Stored → Bool) (ns : List ℕ)
    → ((k : ℕ) (b : Bool) → k < l.self.count → goal.F-post g l.test k b → b ≡ p (stored l.self.order field ns (record_at k l.self.dir.now l.self.bytes.now)))
    → Marking p (contents l.self.order field ns (records l.self.count l.self.dir.now l.self.bytes.now)) l.initial.marks l.marks l.k)
