-- `write_mark` meets its contract: the mark, then what stood behind it. Assumes nothing.
use mathlib.Core.Path.{◌≡◌, refl}
use lib.ListN.{length}
use Rattle.laws.specs.Lists.{put}
use borrow.Author.Rules.{rules}
use Rattle.keys.proofs.encode.write_mark.Goals as goal

pub returns : goal.returns
unfolding put
returns c =
    let n : length c.args.mark ≡ 2 = search rules in
    (refl, rw (c.copy_from_slice.ensures.after, n) refl)
