-- `area_of_interest_to_range` meets its contract: each way's answer is the definition's. Assumes nothing.
use Rattle.std.proofs.Common.{sym}
use native.Mathlib.Omega.{arith}
use Rattle.data_model.specs.Path.{legal, field}
use Rattle.store.specs.Lent.{lent}
use Rattle.tree.specs.declared.stored.KeyOrder.TheVariants.{Tsp}
use Rattle.query.proofs.Tested.{read-tested, cuts, interest-done, range_is, range_given}
use Rattle.query.proofs.interest.area_of_interest_to_range.Goals as goal

pub tsp-requires : goal.tsp-requires
tsp-requires c = cuts (lent c.args.store) (legal field c.args.aoi.area.path) (sym (rw c.is_legal.ensures at c.in_ok-read_refusal.ensures))

pub interest_time-requires : goal.interest_time-requires
interest_time-requires c =
    let k = read-tested (lent c.args.store) (legal field c.args.aoi.area.path) (sym (rw c.is_legal.ensures at c.in_ok-read_refusal.ensures)) in
    let t = c.tsp.ensures in
    let m = k.0.most in
    let f = k.0.few in
    rw (t.0, t.1, t.2, t.3) (k.0.formed Tsp, omega arith, k.1)

pub returns : goal.returns
returns c =
    let t = c.tsp.ensures in
    interest-done (lent c.args.store) c.args.aoi (rw c.is_legal.ensures at c.in_ok-read_refusal.ensures) _ (rw (t.0, t.1, t.2, t.3) at c.interest_time.ensures c.args.store.state.namespace_id) _ (range_is c.args.aoi.area (read-tested (lent c.args.store) (legal field c.args.aoi.area.path) (sym (rw c.is_legal.ensures at c.in_ok-read_refusal.ensures))).1 _ c.in_ok-range.ensures)

pub returns-in_err-range : goal.returns-in_err-range
returns-in_err-range c = range_given c.args.aoi.area (read-tested (lent c.args.store) (legal field c.args.aoi.area.path) (sym (rw c.is_legal.ensures at c.in_ok-read_refusal.ensures))).1 _ c.in_err-range.ensures
