-- `read_digest` meets its contract: one byte, or all. Assumes nothing.
use mathlib.Core.Path.{sym, ◌∙◌}
use Rattle.text.proofs.ValueLaws.{digest-one, digest-other}
use Rattle.text.proofs.value.read_digest.Goals as goal

pub returns-in-Some : goal.returns-in-Some
returns-in-Some c = digest-one _ _ (sym c.read_byte.ensures ∙ c.in-Some.is)

pub returns-in-None : goal.returns-in-None
returns-in-None c = c.read_bytes.ensures ∙ digest-other _ (sym c.read_byte.ensures ∙ c.in-None.is)
