-- The path of an open end that C hands in is not looked at. Assumes nothing.
use mathlib.Core.Path.{◌≡◌, refl, sym}
use Rattle.std.specs.Prelude.{Bool, true, false, cond}
use Rattle.laws.proofs.Truth.{clash}
use Rattle.data_model.specs.declared.path.Path.{Path}
use Rattle.data_model.specs.declared.range.RangeEnd.TheVariants.{Closed, Open}
use Rattle.key_laws.specs.Agree.{PathsAgree, EndsAgree}
use Rattle.plain.specs.Input.{is_yes}
use Rattle.plain.specs.Unlooked.{OpenEndUnlooked}

ends : (x y : Bool) (p q : Path) → x ≡ y → (x ≡ false → PathsAgree p q) → EndsAgree (cond x Open (Closed p)) (cond y Open (Closed q))
ends true true p q e agree = tt
ends true false p q e agree = clash {b = true} refl e
ends false true p q e agree = clash {b = true} refl (sym e)
ends false false p q e agree = agree refl

pub open_end_unlooked : OpenEndUnlooked
open_end_unlooked a b agree = record { start = agree.start; end = ends (is_yes a.«open») (is_yes b.«open») a.end b.end agree.opens agree.end }
