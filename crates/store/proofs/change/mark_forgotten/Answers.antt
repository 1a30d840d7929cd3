-- `mark_forgotten` meets its contract: on the marks of the two areas. Assumes nothing.
use Rattle.tree.proofs.FormedContents.{formed-many}
use Rattle.store.specs.Change.{in_tree}
use Rattle.store.proofs.ChangeLaws.{unprotected-marks, protected-marks}
use Rattle.store.proofs.change.mark_forgotten.Goals as goal

pub returns-in-Some : goal.returns-in-Some
returns-in-Some c =
    let f = c.no_flags-ignore in
    rw c.in-Some.is λ ns.
    protected-marks f.result f.ensures c.args.area c.in-Some.kept (in_tree c.args.tree.order ns c.args.tree.count c.args.tree.dir.now c.args.tree.bytes.now) c.args.tree.count (formed-many c.requires.0 ns)
    _ _ _ _ _ (c.mark_area.ensures ns) (c.mark_area-in-Some.ensures ns) c.unmark.ensures

pub returns-in_default : goal.returns-in_default
returns-in_default c =
    let f = c.no_flags-ignore in
    rw c.in_default.is λ ns. unprotected-marks f.result f.ensures c.args.area c.args.area (in_tree c.args.tree.order ns c.args.tree.count c.args.tree.dir.now c.args.tree.bytes.now) _ _ (c.mark_area.ensures ns)
