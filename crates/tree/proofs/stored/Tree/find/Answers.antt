-- `find` meets its contract. Assumes nothing.
use mathlib.Core.Path.{◌∙◌, sym}
use native.Mathlib.Omega.{arith}
use Rattle.tree.proofs.SearchLaws.{find-is, find_none}
use Rattle.tree.proofs.stored.Tree.find.Goals as goal
use Rattle.tree.proofs.stored.Tree.find.Goals.{else-at-self-via-then-at-self+else-same, else-at-self-via-else-at-self}

pub returns-then-same-clause-found : goal.returns-then-same-clause-found
returns-then-same-clause-found c =
    sym c.if-same.true ∙ find-is c.requires c.args.key.now c.lower-at.result c.lower-at.ensures (omega arith) _ _ c.key_at.ensures c.same.ensures

pub returns-else-at-self-clause-found : goal.returns-else-at-self-clause-found
returns-else-at-self-clause-found c =
    elim c.else-at-self.branch [
      | else-at-self-via-then-at-self+else-same w ↦
          sym w.if-same.false ∙ find-is c.requires c.args.key.now c.lower-at.result c.lower-at.ensures (omega (arith, w.if-at-self.true)) _ _ w.key_at.ensures w.same.ensures
      | else-at-self-via-else-at-self w ↦ find_none c.requires c.args.key.now c.lower-at.result c.lower-at.ensures (omega (arith, w.if-at-self.false))
    ]
