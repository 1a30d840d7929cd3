-- `zeros` meets its contract. Assumes nothing.
use mathlib.Core.Path.{◌∙◌}
use Rattle.layout.proofs.BufferLaws.{zeros-from}
use Rattle.layout.proofs.bytes.zeros.Goals as goal

pub returns : goal.returns
returns c = c.all_are.ensures ∙ zeros-from c.args.from c.args.buf.now
