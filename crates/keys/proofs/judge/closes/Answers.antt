-- `closes` meets its contract. Assumes nothing.
use mathlib.Core.Path.{ap₂}
use mathlib.Core.Bool.{◌&&◌}
use Rattle.keys.proofs.judge.closes.Goals as goal

pub returns : goal.returns
returns c = ap₂ ◌&&◌ c.has_mark.ensures c.has_mark-2.ensures
