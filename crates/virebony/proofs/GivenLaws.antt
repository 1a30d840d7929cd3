-- A value that is handed in beside a yes or no: where that is no, the call does not look at it. Assumes nothing.
use Prim.Native.Nat.{ℕ}
use mathlib.Core.Path.{◌≡◌, refl}
use mathlib.Core.Bool.{Bool, true, false}
use mathlib.Core.List.{List}
use lib.ListN.{replicate}
use Rattle.std.specs.Prelude.{cond, Some, None, is_some, unwrap_or}
use Rattle.data_model.specs.Path.{field}
use Rattle.data_model.specs.declared.parameters.Subspace.{Subspace}
use Rattle.data_model.specs.declared.path.Path.{Path}
use Rattle.data_model.specs.declared.area.Area.{Area}
use Rattle.store.specs.Store.{Store, Tallied}
use Rattle.store.specs.Forget.{digest_in, entry_forgotten, area_forgotten}
use Rattle.store.proofs.ForgetLaws.{entry-unlooked, area-unlooked}
use Rattle.available.specs.Available.{available_set}
use Rattle.available.proofs.RefusalLaws.{available-unlooked}
use Rattle.plain.specs.Input.{is_yes, given}

module _ (w : Tallied) (s : Subspace) (p : Path) (d : List ℕ) where
  entry-flagged : (b : Bool) → entry_forgotten field w s p (is_some (cond b (Some d) None)) (digest_in (cond b (Some d) None)) ≡ entry_forgotten field w s p b d
  entry-flagged true = refl
  entry-flagged false = entry-unlooked field w s p (replicate 32 0) d

  pub entry_given : (flag : ℕ) → entry_forgotten field w s p (is_some (given flag d)) (digest_in (given flag d)) ≡ entry_forgotten field w s p (is_yes flag) d
  entry_given flag = entry-flagged (is_yes flag)

module _ (w : Tallied) (a k : Area) where
  area-flagged : (b : Bool) → area_forgotten field w a (is_some (cond b (Some k) None)) (unwrap_or (cond b (Some k) None) a) ≡ area_forgotten field w a b k
  area-flagged true = refl
  area-flagged false = area-unlooked field w a a k

  pub area_given : (flag : ℕ) → area_forgotten field w a (is_some (given flag k)) (unwrap_or (given flag k) a) ≡ area_forgotten field w a (is_yes flag) k
  area_given flag = area-flagged (is_yes flag)

module _ (w : Store) (s : Subspace) (p : Path) (d : List ℕ) (n : ℕ) where
  available-flagged : (b : Bool) → available_set field w s p (is_some (cond b (Some d) None)) (digest_in (cond b (Some d) None)) n ≡ available_set field w s p b d n
  available-flagged true = refl
  available-flagged false = available-unlooked field w s p (replicate 32 0) d n

  pub available_given : (flag : ℕ) → available_set field w s p (is_some (given flag d)) (digest_in (given flag d)) n ≡ available_set field w s p (is_yes flag) d n
  available_given flag = available-flagged (is_yes flag)
