-- `count_group` meets its contract: each way's answer is the definition's. Assumes nothing.
use Rattle.std.proofs.Common.{sym}
use native.Mathlib.Omega.{arith}
use Rattle.store.specs.Lent.{lent}
use Rattle.tree.specs.declared.stored.KeyOrder.TheVariants.{Spt}
use Rattle.query.proofs.Tested.{read-tested, cuts, count-done}
use Rattle.query.proofs.count.count_group.Goals as goal

pub spt-requires : goal.spt-requires
spt-requires g c = cuts (lent c.args.store) (g.G.Grouping.legal c.args.group) (sym (rw c.is_legal.ensures at c.in_ok-read_refusal.ensures))

pub count_in-requires : goal.count_in-requires
count_in-requires g c =
    let k = read-tested (lent c.args.store) (g.G.Grouping.legal c.args.group) (sym (rw c.is_legal.ensures at c.in_ok-read_refusal.ensures)) in
    let t = c.spt.ensures in
    let m = k.0.most in
    let f = k.0.few in
    rw (t.0, t.1, t.2, t.3) (k.0.formed Spt, omega arith, k.1)

pub returns : goal.returns
returns g c =
    let t = c.spt.ensures in
    count-done (lent c.args.store) (g.G.Grouping.legal c.args.group) (g.G.Grouping.includes c.args.group) (rw c.is_legal.ensures at c.in_ok-read_refusal.ensures) _ (rw (t.0, t.1, t.2, t.3) at c.count_in.ensures c.args.store.state.namespace_id)
