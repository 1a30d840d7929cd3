-- `place_at` meets its contract: by the first mark. Assumes nothing.
use Prim.Native.Nat.{ℕ}
use mathlib.Core.List.{List}
use mathlib.Core.Path.{◌≡◌}
use native.Mathlib.Omega.{arith}
use lib.ListN.{length}
use borrow.Author.Tests.{lt-ltb, le-ltb}
use Rattle.layout.specs.Marks.{marks_of, first_mark}
use Rattle.data_model.specs.Path.{components}
use Rattle.tree.specs.Stored.{Stored}
use Rattle.tree.specs.Matching.{stands_at}
use Rattle.tree.proofs.FormedContents.{formed-many}
use Rattle.store.specs.Change.{in_tree}
use Rattle.store.proofs.DecideLaws.{marks-first}
use Rattle.store.proofs.place.place_at.Goals as goal
use Rattle.store.proofs.place.place_at.Goals.{After-first_marked-k}

module _ (c : After-first_marked-k) (ns : List ℕ) where
  abbrev all : List Stored
  all = in_tree c.args.tree.order ns c.args.tree.count c.args.tree.dir.now c.args.tree.bytes.now

  many : length all ≡ c.args.tree.count
  many = formed-many c.requires.0 ns

  first : c.first_marked-k.result ≡ first_mark (marks_of (stands_at c.args.subspace (components c.args.path)) all)
  first = marks-first (stands_at c.args.subspace (components c.args.path)) all c.args.tree.count many c.mark_at.new.marks _ (c.mark_at.ensures ns) c.first_marked-k.result c.first_marked-k.ensures

pub returns-then-k-tree : goal.returns-then-k-tree
returns-then-k-tree c = λ ns.
    let a = (goal.at.returns-then-k-tree c).After-first_marked-k in
    rw (← first a ns, lt-ltb c.first_marked-k.result (length (all a ns)) (omega (arith, many a ns)))

pub returns-else-k-tree : goal.returns-else-k-tree
returns-else-k-tree c = λ ns.
    let a = (goal.at.returns-else-k-tree c).After-first_marked-k in
    rw (← first a ns, le-ltb c.first_marked-k.result (length (all a ns)) (omega (arith, many a ns)))
