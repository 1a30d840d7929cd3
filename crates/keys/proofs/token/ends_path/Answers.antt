-- `ends_path` meets its contract: by what stands there. Assumes nothing.
use mathlib.Core.Path.{sym, ap, ◌∙◌}
use Rattle.std.proofs.Common.{rules}
use Rattle.std.specs.Prelude.{Ok}
use Rattle.data_model.specs.Refusal.{said_by}
use Rattle.keys.specs.Decode.{token_says, ends_path}
use Rattle.keys.proofs.token.ends_path.Goals as goal

pub returns-in-Ok-PathEnd : goal.returns-in-Ok-PathEnd
unfolding ends_path
returns-in-Ok-PathEnd c = sym (ap ends_path (sym c.token_at.ensures ∙ ap (said_by token_says) (c.in-Ok-PathEnd.is ∙ ap Ok c.in-Ok-PathEnd.field-0-is)))

pub returns-in_default : goal.returns-in_default
unfolding ends_path
returns-in_default c = search rules

pub returns-in_default-2 : goal.returns-in_default-2
unfolding ends_path
returns-in_default-2 c = sym (ap ends_path (sym c.token_at.ensures ∙ ap (said_by token_says) c.in_default.is))
