-- `lets_through` meets its contract. Assumes nothing.
use Rattle.laws.proofs.Truth.{clash}
use Rattle.tree.proofs.TestLaws.{through-kept}
use Rattle.tree.proofs.matching.lets_through.Goals as goal
use Rattle.tree.proofs.matching.lets_through.Goals.{else-ignore-via-then-ignore+else-available-length, else-ignore-via-else-ignore}

pub returns-else-not-ignore : goal.returns-else-not-ignore
returns-else-not-ignore c = λ x a l.
    through-kept c.args.ignore x c.args.available c.args.length a l
    (elim c.else-ignore.branch [
      | else-ignore-via-then-ignore+else-available-length w ↦ λ t. w.if-available-length.false
      | else-ignore-via-else-ignore w ↦ λ t. clash t w.if-ignore.false
    ])
    c.if-not-ignore.false
