-- `check_area` meets its contract. Assumes nothing.
use Rattle.std.proofs.Common.{rules}
use mathlib.Core.Path.{◌≡◌, ◌∙◌}
use Rattle.data_model.specs.Refusal.{refused_with, refusal_number}
use Rattle.store.specs.Refusal.{unless, ◌or_else◌}
use Rattle.store.specs.Forget.{forget_area_refusal}
use Rattle.store.proofs.CheckLaws.{early}
use Rattle.store.proofs.forget.check_area.Goals as goal
use Rattle.store.proofs.forget.check_area.Goals.{After-from_residual, then-is_legal, else-is_legal}

answered : (c : After-from_residual) → refused_with c.from_residual.result ≡ refusal_number c.in_err-check_tallied.field-0.0
answered c = search rules

pub returns-in_err-check_tallied : goal.returns-in_err-check_tallied
unfolding forget_area_refusal
returns-in_err-check_tallied c = answered c ∙ early _ _ _ c.in_err-check_tallied.ensures

pub returns-then-not-is_none_or : goal.returns-then-not-is_none_or
unfolding forget_area_refusal unless ◌or_else◌
returns-then-not-is_none_or c = rw (← c.in_ok-check_tallied.ensures) (elim c.if-is_legal.branch [ then-is_legal w ↦ search rules | else-is_legal w ↦ search rules ])

pub returns : goal.returns
unfolding forget_area_refusal unless ◌or_else◌
returns c = rw (← c.in_ok-check_tallied.ensures) (elim c.if-is_legal.branch [ then-is_legal w ↦ search rules | else-is_legal w ↦ search rules ])
