-- `encode_byte` meets its contract: 00 02 for 00, else the byte. Assumes nothing.
use mathlib.Core.Path.{refl}
use mathlib.Core.List.{[], ◌∷◌}
use native.Mathlib.Omega.{arith}
use Rattle.laws.proofs.Lists.{put-sets}
use Rattle.keys.proofs.Encoding.{escaped-zero, escaped-other}
use Rattle.keys.proofs.encode.encode_byte.Goals as goal

pub returns-then-b-eq0 : goal.returns-then-b-eq0
returns-then-b-eq0 c =
    let e = escaped-zero _ c.if-b-eq0.true in
    rw e c.write_mark.ensures

pub returns : goal.returns
returns c =
    let b = c.args.b in
    let e = escaped-other _ c.if-b-eq0.false in
    rw e (refl, put-sets (b ∷ []) c.args.out.now (omega arith))
