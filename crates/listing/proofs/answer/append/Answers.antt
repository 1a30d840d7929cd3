-- `append` meets its contract: as many of the bytes as there is room for. Assumes nothing.
use native.Mathlib.Omega.{arith}
use Prim.Native.Nat.{◌-◌, min}
use mathlib.Core.Path.{◌≡◌}
use lib.ListN.{length, length-take}
use Rattle.listing.proofs.InputLaws.{added-most}
use Rattle.listing.proofs.answer.append.Goals as goal

pub returns : goal.returns
returns c =
    let k : c.min-taken.result ≡ min (length c.args.bytes.now) (length c.args.line.now - c.args.n) = c.min-taken.ensures in
    (omega (arith, length-take c.min-taken.result c.args.bytes.now, c.write_bytes.ensures.0), added-most c.args.line.now c.args.bytes.now _ _ _ c.requires _ k c.write_bytes.ensures.0 c.write_bytes.ensures.1)
