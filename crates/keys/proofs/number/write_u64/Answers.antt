-- `write_u64` meets its contract: eight bytes, then what stood behind them. Assumes nothing.
use mathlib.Core.Path.{refl}
use Rattle.laws.specs.Lists.{put}
use Rattle.keys.proofs.Encoding.{be-8}
use Rattle.keys.proofs.number.write_u64.Goals as goal

pub returns : goal.returns
unfolding put
returns c = (refl, rw (c.copy_from_slice.ensures.after, c.to_be_bytes.ensures, be-8) refl)
