-- `all_are` meets its contract: what is left, and whether all before is the value. Assumes nothing.
use mathlib.Core.Path.{◌≡◌}
use mathlib.Core.Bool.{◌&&◌}
use lib.ListN.{drop}
use Rattle.std.specs.List.{list_all}
use Rattle.layout.proofs.bytes.all_are.Given as goal

abbrev pub invariant-loop-x : goal.invariant-loop-x
invariant-loop-x g l =
    list_all (λ x. g.T.PartialEq.eq x l.value) l.elements ≡ (l.ok && list_all (λ x. g.T.PartialEq.eq x l.value) (drop l.x-index l.elements))
