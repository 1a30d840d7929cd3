-- `apart` meets its contract: by the nearest that covers each. Assumes nothing.
use Prim.Native.Nat.{ℕ, ◌≤◌, ◌<◌}
use mathlib.Core.Path.{◌≡◌}
use mathlib.Core.List.{List}
use lib.ListN.{length, get_or}
use Rattle.tree.proofs.ApartLaws.{Walked}
use Rattle.tree.proofs.stored.Tree.apart.Given as goal

abbrev pub invariant-loop-k : goal.invariant-loop-k
invariant-loop-k l =
    (l.k ≤ l.self.count) × (l.depth ≤ 9) × (length l.stack ≡ 9) × ((i : ℕ) → i < l.depth → get_or l.stack i 0 < l.k) × ((ns : List ℕ) → Walked l.self.count l.self.dir.now l.self.bytes.now ns l.stack l.depth l.k)
