-- `group_step` meets its contract: each way's answer is the definition's. Assumes nothing.
use Rattle.std.proofs.Common.{sym, refl}
use native.Mathlib.Omega.{arith}
use Rattle.store.specs.Lent.{lent}
use Rattle.tree.specs.declared.stored.KeyOrder.TheVariants.{Spt}
use Rattle.query.proofs.Tested.{list-tested, list-cuts}
use Rattle.query.proofs.GivenLaws.{step_given}
use Rattle.query.proofs.step.group_step.Goals as goal

pub spt-tree-requires : goal.spt-tree-requires
spt-tree-requires g c = list-cuts (lent c.args.store) (g.G.Grouping.legal c.args.group) c.args.last.now (sym (rw c.is_legal.ensures at c.in_ok-list_refusal.ensures))

pub next_in-requires : goal.next_in-requires
next_in-requires g c =
    let k = list-tested (lent c.args.store) (g.G.Grouping.legal c.args.group) c.args.last.now (sym (rw c.is_legal.ensures at c.in_ok-list_refusal.ensures)) in
    let t = c.spt-tree.ensures in
    let m = k.0.most in
    let f = k.0.few in
    rw (t.0, t.1, t.2, t.3) (refl, k.0.ordered Spt, omega arith, k.1)

pub step_at-requires : goal.step_at-requires
step_at-requires g c =
    let k = list-tested (lent c.args.store) (g.G.Grouping.legal c.args.group) c.args.last.now (sym (rw c.is_legal.ensures at c.in_ok-list_refusal.ensures)) in
    let t = c.spt-tree.ensures in
    rw (t.1, t.2) (k.0.formed Spt).few

pub returns : goal.returns
returns g c =
    let t = c.spt-tree.ensures in
    step_given (lent c.args.store) (g.G.Grouping.legal c.args.group) (g.G.Grouping.lists c.args.group c.args.ignore) c.args.last.now (rw c.is_legal.ensures at c.in_ok-list_refusal.ensures) _ (rw (t.1, t.2, t.3) at c.next_in.ensures c.args.store.state.namespace_id) _ (rw (t.1, t.2) at c.step_at.ensures)
