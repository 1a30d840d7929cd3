-- `entry` meets its contract: each way's answer is the definition's. Assumes nothing.
use Rattle.std.proofs.Common.{sym}
use native.Mathlib.Omega.{arith}
use Rattle.data_model.specs.Path.{legal, field}
use Rattle.store.specs.Lent.{lent}
use Rattle.tree.specs.declared.stored.KeyOrder.TheVariants.{Spt}
use Rattle.query.proofs.Tested.{read-tested, cuts, entry-done}
use Rattle.query.proofs.entry.entry.Goals as goal

pub spt-requires : goal.spt-requires
spt-requires c = cuts (lent c.args.store) (legal field c.args.path) (sym (rw c.is_legal.ensures at c.in_ok-read_refusal.ensures))

pub find_entry-requires : goal.find_entry-requires
find_entry-requires c =
    let k = read-tested (lent c.args.store) (legal field c.args.path) (sym (rw c.is_legal.ensures at c.in_ok-read_refusal.ensures)) in
    let t = c.spt.ensures in
    let m = k.0.most in
    let f = k.0.few in
    rw (t.0, t.1, t.2, t.3) (k.0.formed Spt, omega arith, k.1)

pub returns : goal.returns
returns c =
    let t = c.spt.ensures in
    entry-done (lent c.args.store) c.args.subspace c.args.path c.args.ignore (rw c.is_legal.ensures at c.in_ok-read_refusal.ensures) _ (rw (t.0, t.1, t.2, t.3) at c.find_entry.ensures)
