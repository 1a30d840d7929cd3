-- `ascends_at` meets its contract. Assumes nothing.
use mathlib.Core.Path.{◌∙◌}
use native.Mathlib.Omega.{arith}
use Rattle.tree.proofs.PassLaws.{ascends_at, ascends-next}
use Rattle.tree.proofs.stored.Tree.ascends_at.Goals as goal

pub returns-else-k-eq0 : goal.returns-else-k-eq0
unfolding ascends_at
returns-else-k-eq0 c =
    let a = c.args in
    c.less.ensures ∙ ascends-next a.self.dir.now a.self.bytes.now a.k _ _ (omega arith) c.key_at.ensures c.key_at-else-k-eq0.ensures
