-- `count_marked` meets its contract. Assumes nothing.
use Rattle.std.proofs.Common.{rules}
use mathlib.Core.Path.{◌≡◌, ◌∙◌}
use Prim.Native.Nat.{ℕ}
use lib.Dec.{eqb}
use Rattle.std.specs.List.{count_by}
use Rattle.layout.proofs.MarkLaws.{count-is}
use Rattle.layout.proofs.marks.count_marked.Goals as goal

pub returns : goal.returns
returns c =
    let e : c.count.result ≡ count_by (λ (x : ℕ). eqb x 1) c.args.marks.now = search rules in
    e ∙ count-is c.args.marks.now
