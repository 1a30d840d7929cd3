-- `covering` meets its contract: those from d on do not cover record k. Assumes nothing.
use Prim.Native.Nat.{ℕ, ◌≤◌, ◌<◌}
use mathlib.Core.Path.{◌≡◌}
use mathlib.Core.Bool.{false}
use lib.ListN.{length, get_or}
use Rattle.laws.specs.Prefix.{same_number, prefix_of}
use Rattle.layout.specs.Layout.{record_at}
use Rattle.tree.specs.Address.{open_at}
use Rattle.tree.proofs.stored.Tree.covering.Given as goal

abbrev pub invariant-loop-d : goal.invariant-loop-d
invariant-loop-d l =
    (l.d ≤ length l.stack) × ((i : ℕ) → l.d ≤ i → i < length l.stack → prefix_of same_number (open_at l.self.order (record_at (get_or l.stack i 0) l.self.dir.now l.self.bytes.now)) l.address ≡ false)
