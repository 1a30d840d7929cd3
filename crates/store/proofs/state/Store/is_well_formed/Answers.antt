-- `is_well_formed` meets its contract. Assumes nothing.
use mathlib.Core.Path.{refl, sym, ◌∙◌}
use borrow.Author.Tests.{lt-leb}
use Rattle.data_model.specs.Path.{field}
use Rattle.tree.specs.declared.stored.KeyOrder.TheVariants.{Spt, Tsp}
use Rattle.store.specs.Store.{well_formed_store}
use Rattle.store.specs.Lent.{lent}
use Rattle.store.proofs.CheckLaws.{limit-most, room_small, store-well}
use Rattle.store.proofs.Lifted.{rooms}
use Rattle.store.proofs.state.Store.is_well_formed.Goals as goal

pub well_formed_trees-requires : goal.well_formed_trees-requires
well_formed_trees-requires c =
    let m = (limit-most _ c.requires.0).1 in
    let r = rooms field (lent c.args.self) c.requires.1 in
    let t = c.spt.ensures in
    let u = c.tsp.ensures in
    (t.0, u.0, u.1 ∙ sym t.1, rw t.3 (room_small (lent c.args.self) m r Spt), rw u.3 (room_small (lent c.args.self) m r Tsp))

pub returns-then-self : goal.returns-then-self
returns-then-self c =
    let t = c.spt.ensures in
    let u = c.tsp.ensures in
    store-well (lent c.args.self) c.if-self.true _
    (c.well_formed_trees.ensures ∙ rw (t.1, t.2, t.3, u.2, u.3) refl)

pub returns-else-self : goal.returns-else-self
unfolding well_formed_store
returns-else-self c = simp (lt-leb c.args.self.state.count c.args.self.state.limit c.if-self.false)
