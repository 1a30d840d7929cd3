-- `mark_removed` meets its contract: the address is written once. Assumes nothing.
use Prim.Native.Nat.{ℕ, ◌-◌}
use mathlib.Core.Path.{refl}
use native.Mathlib.Omega.{arith}
use lib.ListN.{length-replicate}
use Rattle.tree.proofs.AddressLaws.{front-wrote}
use Rattle.std.proofs.Common.{rules}
use Rattle.data_model.specs.Entry.{entry_of, rank_of}
use Rattle.key_laws.specs.KeyOrder.{Sized}
use Rattle.tree.specs.Stored.{triple_of}
use Rattle.tree.proofs.FormedLaws.{formed-readable}
use Rattle.tree.proofs.stored.Tree.mark_removed.Goals as goal
use Rattle.tree.proofs.stored.Tree.mark_removed.Goals.{Start}

sized : (c : Start) → Sized (triple_of (entry_of c.args.e))
unfolding triple_of entry_of rank_of
sized c = record { high = search rules; low = search rules; time = search rules }

pub mark_all-requires : goal.mark_all-requires
mark_all-requires c = (
  c.requires.0,
  c.requires.1,
  λ k h κs p q r x y z w. (
    formed-readable c.requires.0 k h,
    front-wrote _ _ c.write_address-n.new.out c.write_address-n.result (c.write_address-n.result - 2) c.write_address-n.ensures.2 (omega (arith, c.write_address-n.ensures.1, c.write_address-n.auto.out, length-replicate {A = ℕ} 298 0)) refl,
    (sized (goal.at.mark_all-requires c).Start),
  ),
)
