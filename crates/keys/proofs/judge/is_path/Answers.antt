-- `is_path` meets its contract: too few bytes, else as the tests say. Assumes nothing.
use mathlib.Core.Path.{sym, ◌∙◌}
use native.Mathlib.Omega.{arith}
use borrow.Author.Tests.{lt-leb}
use Rattle.data_model.specs.Path.{field}
use Rattle.keys.specs.Decode.{read_path}
use Rattle.keys.proofs.Automaton.{takes-short}
use Rattle.keys.proofs.judge.is_path.Goals as goal

pub returns-else-n-ge2 : goal.returns-else-n-ge2
unfolding read_path
returns-else-n-ge2 c = lt-leb 2 c.args.n (omega arith) ∙ sym (takes-short field.mcl field.mpl field.mcc c.args.n c.args.k.now (omega arith))
