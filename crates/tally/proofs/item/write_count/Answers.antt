-- `write_count` meets its contract: the last four of eight bytes. Assumes nothing.
use mathlib.Core.Path.{refl}
use Rattle.laws.specs.Lists.{put}
use Rattle.tally.proofs.TallyBytes.{be-4}
use Rattle.tally.proofs.item.write_count.Goals as goal

pub returns : goal.returns
unfolding put
returns c = rw (c.copy_from_slice.ensures.after, c.to_be_bytes.ensures, be-4) refl
