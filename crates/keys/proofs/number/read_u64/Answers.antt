-- `read_u64` meets its contract: eight bytes, each worth 256 of the next. Assumes nothing.
use native.Mathlib.Omega.{arith}
use Rattle.keys.proofs.Decoding.{number-8}
use Rattle.keys.proofs.number.read_u64.Goals as goal

pub returns : goal.returns
returns c = omega (arith, number-8 c.args.k.now c.requires, c.from_be_bytes.ensures)
