-- `read_subspace` meets its contract: one byte, or all. Assumes nothing.
use mathlib.Core.Path.{sym, ap, ◌∙◌}
use Rattle.std.specs.Prelude.{Some}
use Rattle.text.proofs.ValueLaws.{subspace-one, subspace-all, subspace-other}
use Rattle.text.proofs.value.read_subspace.Goals as goal

pub returns-in-Some : goal.returns-in-Some
returns-in-Some c = subspace-one _ _ (sym c.read_byte.ensures ∙ c.in-Some.is ∙ ap Some (sym c.from.ensures))

pub returns-in_err-all : goal.returns-in_err-all
returns-in_err-all c = c.from_residual.ensures ∙ subspace-other _ (sym c.read_byte.ensures ∙ c.in_default.is) (sym c.read_bytes.ensures ∙ c.in_err-all.was)

pub returns : goal.returns
returns c = ap Some c.read_subspace.ensures ∙ subspace-all _ (sym c.read_byte.ensures ∙ c.in_default.is) _ (sym c.read_bytes.ensures ∙ c.in_ok-all.was)
