-- `write_bytes` meets its contract. Assumes nothing.
use Rattle.std.proofs.Common.{rules, tests}
use Rattle.laws.specs.Lists.{put}
use Rattle.text.proofs.line.write_bytes.Goals as goal

pub returns : goal.returns
unfolding put
returns c = search (rules, tests)
