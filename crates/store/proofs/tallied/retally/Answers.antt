-- `retally` meets its contract: the tally in its room is written, the rest is kept. Assumes nothing.
use Prim.Native.Nat.{ℕ}
use mathlib.Core.List.{List, ◌++◌}
use mathlib.Core.Path.{ap, ◌∙◌}
use lib.ListN.{take, drop}
use lib.Seq.{length-take-le}
use Rattle.data_model.specs.Path.{field}
use Rattle.tree.specs.declared.stored.KeyOrder.TheVariants.{Spt}
use Rattle.tally.specs.Tally.{tally_room, tally_in, tally_holding}
use Rattle.store.specs.Store.{tree_room, dir_room}
use Rattle.store.specs.Change.{in_tree}
use Rattle.store.proofs.tallied.retally.Goals as goal

pub returns : goal.returns
unfolding tally_holding
returns c =
    λ ns.
    ap (λ (l : List ℕ). l ++ drop (tally_room c.args.state.limit) c.args.tally.now)
    (c.write_tally.ensures ns ∙ ap (λ (n : ℕ). tally_in n (in_tree Spt ns c.args.state.count (take (dir_room c.args.state.limit) c.args.spt_dir.now) (take (tree_room field c.args.state.limit) c.args.spt.now))) (length-take-le _ c.args.tally.now c.requires.5))
