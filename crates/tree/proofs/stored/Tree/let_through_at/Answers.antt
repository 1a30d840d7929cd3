-- `let_through_at` meets its contract. Assumes nothing.
use Rattle.tree.proofs.SelectionLaws.{length-read, available-read}
use Rattle.tree.proofs.TestLaws.{through-free}
use Rattle.tree.proofs.stored.Tree.let_through_at.Goals as goal

pub returns-then-not-ignore-2 : goal.returns-then-not-ignore-2
returns-then-not-ignore-2 c = λ o ns. through-free _ _ c.if-not-ignore.true c.if-not-ignore-2.true

pub returns : goal.returns
returns c =
    λ o ns.
    let v = c.value_at-value in
    c.lets_through.ensures _ (available-read o ns _ _ _ v.ensures c.available.ensures) (length-read o ns _ _ _ v.ensures c.payload_length.ensures)
